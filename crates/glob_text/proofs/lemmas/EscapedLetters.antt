-- The letters of an escaped text are those of the text, escaped.
use Rattle.std.proofs.Common.{◌≡◌, ◌<◌, ℕ, Bool, true, false, nat_eq, cond, ◌&&◌, List, [], ◌∷◌, ◌++◌, refl, sym, ap, ◌∙◌, subst, append_assoc, append-nil, lit<}
use Rattle.std.specs.List.{AllByRecursion}
use Rattle.std.proofs.lemmas.Bool.{eqb-true}
use Rattle.wildcards.specs.Reading.{LetterLaws}
use Rattle.glob_text.specs.declared.mark.Kind.{Kind}
use Rattle.glob_text.specs.declared.mark.Kind.TheVariants.{Quote, Star, Question, Bracket, Open, Comma, Close, Literal}
use Rattle.glob_text.specs.Marks.{kind_of}
use Rattle.glob_text.specs.Escape.{is_literal, quoted, escaped_letter, escaped}

-- a letter of this kind matches itself, or is one of a few
module _ (P : Type 0) where
  one_kind : (b : Bool) (k other : Kind) → (b ≡ true → P) → (is_literal other ≡ false → P) → is_literal (cond b k other) ≡ false → P
  one_kind true k other p r e = p refl
  one_kind false k other p r e = r e

pub special : (q : Bool) (l : ℕ) (P : ℕ → Type 0) → ((q && nat_eq l 0x5C) ≡ true → P l) → P 0x2A → P 0x3F → P 0x5B → P 0x7B → P 0x2C → P 0x7D → is_literal (kind_of q l) ≡ false → P l
special q l P quote a b c d f g =
    one_kind (P l) (q && nat_eq l 0x5C) Quote _ quote
    (one_kind (P l) (nat_eq l 0x2A) Star _ (λ e. subst P (sym (eqb-true l 0x2A e)) a)
    (one_kind (P l) (nat_eq l 0x3F) Question _ (λ e. subst P (sym (eqb-true l 0x3F e)) b)
    (one_kind (P l) (nat_eq l 0x5B) Bracket _ (λ e. subst P (sym (eqb-true l 0x5B e)) c)
    (one_kind (P l) (nat_eq l 0x7B) Open _ (λ e. subst P (sym (eqb-true l 0x7B e)) d)
    (one_kind (P l) (nat_eq l 0x2C) Comma _ (λ e. subst P (sym (eqb-true l 0x2C e)) f)
    (one_kind (P l) (nat_eq l 0x7D) Close Literal (λ e. subst P (sym (eqb-true l 0x7D e)) g)
    (λ e. let never : true ≡ false = e in absurd cc)))))))

quote_low : (q : Bool) (l : ℕ) → (q && nat_eq l 0x5C) ≡ true → l < 0x80
quote_low true l e = subst (λ n. n < 0x80) (sym (eqb-true l 0x5C e)) (lit< tt)
quote_low false l e = let never : false ≡ true = e in absurd cc

special_low : (q : Bool) (l : ℕ) → is_literal (kind_of q l) ≡ false → l < 0x80
special_low q l = special q l (λ n. n < 0x80) (quote_low q l) (lit< tt) (lit< tt) (lit< tt) (lit< tt) (lit< tt) (lit< tt)

-- the letter matches itself
abbrev pub IsPlain : Bool → ℕ → Type 0
IsPlain q l = is_literal (kind_of q l) ≡ true

pub plain_letter : (q : Bool) (l : ℕ) → IsPlain q l → escaped_letter q l ≡ l ∷ []
plain_letter q l e = ap (λ b. cond b (l ∷ []) (quoted q l)) e

pub special_letter : (q : Bool) (l : ℕ) → is_literal (kind_of q l) ≡ false → escaped_letter q l ≡ quoted q l
special_letter q l e = ap (λ b. cond b (l ∷ []) (quoted q l)) e

plain_all : (q : Bool) (ls : List ℕ) → AllByRecursion (IsPlain q) ls → escaped q ls ≡ ls
plain_all q [] h = refl
plain_all q (l ∷ ls) h = ap (λ z. z ++ escaped q ls) (plain_letter q l h.0) ∙ ap (λ z. l ∷ z) (plain_all q ls h.1)

escaped_append : (q : Bool) (ks ls : List ℕ) → escaped q (ks ++ ls) ≡ escaped q ks ++ escaped q ls
escaped_append q [] ls = refl
escaped_append q (k ∷ ks) ls = ap (λ z. escaped_letter q k ++ z) (escaped_append q ks ls) ∙ sym (append_assoc (escaped_letter q k) (escaped q ks) (escaped q ls))

all_more : (P : ℕ → Type 0) (xs : List ℕ) (y : ℕ) → AllByRecursion P xs → P y → AllByRecursion P (xs ++ y ∷ [])
all_more P [] y h k = (k, tt)
all_more P (x ∷ xs) y h k = (h.0, all_more P xs y h.1 k)

all_at : (P : ℕ → Type 0) (xs : List ℕ) (y : ℕ) (zs : List ℕ) → AllByRecursion P (xs ++ y ∷ zs) → P y
all_at P [] y zs h = h.0
all_at P (x ∷ xs) y zs h = all_at P xs y zs h.1

module _ (formed : List ℕ → Type 0) (letters : List ℕ → List ℕ) (laws : LetterLaws formed letters)
    (around : (s t : List ℕ) (b : ℕ) → b < 0x80 → formed s → formed t → formed (s ++ b ∷ t)) (q : Bool) where
  -- the bytes are read as letters that match themselves
  plain_rest : (p us vs : List ℕ) → formed p → AllByRecursion (IsPlain q) p → letters p ≡ us ++ vs → AllByRecursion (IsPlain q) vs
  plain_rest p us [] f h e = tt
  plain_rest p us (l ∷ vs) f h e = (by_kind (is_literal (kind_of q l)) refl, plain_rest p (us ++ l ∷ []) vs f h (e ∙ sym (append_assoc us (l ∷ []) vs)))
    where
      by_kind : (b : Bool) → is_literal (kind_of q l) ≡ b → IsPlain q l
      by_kind true k = k
      by_kind false k =
          let at = laws.found p us vs l (special_low q l k) f e in
          all_at (IsPlain q) at.prefix l at.suffix (subst (AllByRecursion (IsPlain q)) at.joined h)

  -- what is written for a letter, between what comes before it and what comes after it
  abbrev Written : List ℕ → List ℕ → List ℕ → Type 0
  Written before text own = formed (before ++ text) × (letters (before ++ text) ≡ escaped q own)

  nothing : formed [] × (letters [] ≡ [])
  nothing = laws.ascii [] tt

  -- ASCII between two strings
  between : (s t : List ℕ) (b : ℕ) → b < 0x80 → formed s → formed t → formed (s ++ b ∷ t) × (letters (s ++ b ∷ t) ≡ letters s ++ b ∷ letters t)
  between s t b low f g = let whole = around s t b low f g in (whole, (laws.cut s t b low whole).1.1)

  first : (t : List ℕ) (b : ℕ) → b < 0x80 → formed t → formed (b ∷ t) × (letters (b ∷ t) ≡ b ∷ letters t)
  first t b low g = let h = between [] t b low nothing.0 g in (h.0, h.1 ∙ ap (λ z. z ++ b ∷ letters t) nothing.1)

  quoted_between : (p : Bool) (s t : List ℕ) (b : ℕ) → b < 0x80 → formed s → formed t → formed (s ++ (quoted p b ++ t)) × (letters (s ++ (quoted p b ++ t)) ≡ letters s ++ (quoted p b ++ letters t))
  quoted_between true s t b low f g =
      let last = first t b low g in
      let all = between s (b ∷ t) 0x5C (lit< tt) f last.0 in
      (all.0, all.1 ∙ ap (λ z. letters s ++ 0x5C ∷ z) last.1)
  quoted_between false s t b low f g =
      let close = first t 0x5D (lit< tt) g in
      let last = first (0x5D ∷ t) b low close.0 in
      let all = between s (b ∷ 0x5D ∷ t) 0x5B (lit< tt) f last.0 in
      (all.0, all.1 ∙ ap (λ z. letters s ++ 0x5B ∷ z) last.1 ∙ ap (λ z. letters s ++ 0x5B ∷ b ∷ z) close.1)

  plain_letters : (p : List ℕ) → formed p → AllByRecursion (IsPlain q) p → escaped q (letters p) ≡ letters p
  plain_letters p f h = plain_all q (letters p) (plain_rest p [] (letters p) f h refl)

  written : (p r : List ℕ) → AllByRecursion (IsPlain q) p → formed (p ++ r) → Written p (escaped q r) (letters (p ++ r))
  written p [] h f =
      let e = append-nil p in
      let own = subst formed e f in
      (f, ap letters e ∙ sym (plain_letters p own h) ∙ ap (λ z. escaped q (letters z)) (sym e))
  written p (b ∷ r) h f = by_kind (λ j g. written (p ++ b ∷ []) r j g) (λ g. written [] r tt g) (is_literal (kind_of q b)) refl
    where
      by_kind : (AllByRecursion (IsPlain q) (p ++ b ∷ []) → formed ((p ++ b ∷ []) ++ r) → Written (p ++ b ∷ []) (escaped q r) (letters ((p ++ b ∷ []) ++ r))) → (formed r → Written [] (escaped q r) (letters r))
          → (k : Bool) → is_literal (kind_of q b) ≡ k → Written p (escaped q (b ∷ r)) (letters (p ++ b ∷ r))
      by_kind later after true k =
          let joined : p ++ b ∷ r ≡ (p ++ b ∷ []) ++ r = sym (append_assoc p (b ∷ []) r) in
          let more = later (all_more (IsPlain q) p b h k) (subst formed joined f) in
          let text : p ++ escaped q (b ∷ r) ≡ (p ++ b ∷ []) ++ escaped q r = ap (λ z. p ++ (z ++ escaped q r)) (plain_letter q b k) ∙ sym (append_assoc p (b ∷ []) (escaped q r)) in
          (subst formed (sym text) more.0, ap letters text ∙ more.1 ∙ ap (λ z. escaped q (letters z)) (sym joined))
      by_kind later after false k =
          let low = special_low q b k in
          let cut = laws.cut p r b low f in
          let more = after cut.1.0 in
          let all = quoted_between q p (escaped q r) b low cut.0 more.0 in
          let text : p ++ escaped q (b ∷ r) ≡ p ++ (quoted q b ++ escaped q r) = ap (λ z. p ++ (z ++ escaped q r)) (special_letter q b k) in
          let own : escaped q (letters (p ++ b ∷ r)) ≡ letters p ++ (quoted q b ++ escaped q (letters r)) =
          ap (escaped q) cut.1.1 ∙ escaped_append q (letters p) (b ∷ letters r) ∙ ap (λ z. z ++ (escaped_letter q b ++ escaped q (letters r))) (plain_letters p cut.0 h) ∙ ap (λ z. letters p ++ (z ++ escaped q (letters r))) (special_letter q b k) in
          (subst formed (sym text) all.0, ap letters text ∙ all.1 ∙ ap (λ z. letters p ++ (quoted q b ++ z)) more.1 ∙ sym own)

  -- the text is a string, and its letters are the escaped ones
  pub escaped_letters : (own : List ℕ) → formed own → formed (escaped q own) × (letters (escaped q own) ≡ escaped q (letters own))
  escaped_letters own f = written [] own tt f
