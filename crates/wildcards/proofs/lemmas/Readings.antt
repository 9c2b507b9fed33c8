-- Bytes and their letters on both sides of a byte of ASCII.
use Rattle.std.proofs.Common.{ℕ, Bool, true, false, nat_eq, ◌≡◌, ◌||◌, ◌<◌, ◌+◌, List, [], ◌∷◌, ◌++◌, length, take, drop, get_or, refl, sym, ap, ◌∙◌, subst, arith, take-append-drop, length-append}
use Rattle.std.proofs.lemmas.List.{drop_more, get_or_at}
use Rattle.std.proofs.lemmas.List.Elements.{All-from_get_or, All-get_or}
use Rattle.std.proofs.lemmas.Bool.{eqb-true}
use Rattle.wildcards.specs.declared.separators.Separators.{Separators}
use Rattle.wildcards.specs.declared.separators.Separators.TheVariants as separators
use Rattle.wildcards.specs.Components.{separates, components, is_hidden}
use Rattle.wildcards.specs.Cuts.{IsPlain, IsCut}
use Rattle.wildcards.specs.Reading.{LetterLaws, IsFirstLetter}
use Rattle.wildcards.proofs.lemmas.Parts.{one_component, first_component, last_of_cut}

-- a separator is ASCII
pub separator_ascii : (o : Separators) (b : ℕ) → separates o b ≡ true → b < 0x80
separator_ascii separators.None b e = let never : false ≡ true = e in cc
separator_ascii separators.Slash b e = omega (arith, eqb-true b 0x2F e)
separator_ascii separators.SlashAndBackslash b e = either (nat_eq b 0x2F) refl
  where
    either : (v : Bool) → nat_eq b 0x2F ≡ v → b < 0x80
    either true f = omega (arith, eqb-true b 0x2F f)
    either false f = omega (arith, eqb-true b 0x5C (ap (λ v. v || nat_eq b 0x5C) (sym f) ∙ e))

module _ (formed : List ℕ → Type 0) (letters : List ℕ → List ℕ) (laws : LetterLaws formed letters) where
  pub no_letters : letters [] ≡ []
  no_letters = (laws.ascii [] tt).1

  pub first_ascii : (s t : List ℕ) (b : ℕ) → b < 0x80 → s ≡ b ∷ t → formed s → formed t × (letters s ≡ b ∷ letters t)
  first_ascii s t b l e f =
      let k = laws.cut [] t b l (subst formed e f) in
      (k.1.0, ap letters e ∙ k.1.1 ∙ ap (λ z. z ++ b ∷ letters t) no_letters)

  pub last_ascii : (s t : List ℕ) (b : ℕ) → b < 0x80 → s ≡ t ++ b ∷ [] → formed s → formed t × (letters s ≡ letters t ++ b ∷ [])
  last_ascii s t b l e f =
      let k = laws.cut t [] b l (subst formed e f) in
      (k.0, ap letters e ∙ k.1.1 ∙ ap (λ z. letters t ++ b ∷ z) no_letters)

  module _ (o : Separators) where
    no_separator : (s p t : List ℕ) (y : ℕ) → IsPlain o s → s ≡ p ++ y ∷ t → separates o y ≡ false
    no_separator s p t y h e =
        let within : length p < length s = omega (arith, ap length e, length-append p (y ∷ t)) in
        let here : get_or s (length p) 0 ≡ y = ap (λ z. get_or z (length p) 0) e ∙ get_or_at p y t 0 (length p) refl in
        ap (separates o) (sym here) ∙ All-get_or (λ b. separates o b ≡ false) s (length p) 0 within h

    pub plain_letters : (s : List ℕ) → formed s → IsPlain o s → IsPlain o (letters s)
    plain_letters s f h = All-from_get_or (λ b. separates o b ≡ false) (letters s) 0 (λ k l. each k l (separates o (get_or (letters s) k 0)) refl)
      where
        each : (k : ℕ) → k < length (letters s) → (v : Bool) → separates o (get_or (letters s) k 0) ≡ v → separates o (get_or (letters s) k 0) ≡ false
        each k l false e = e
        each k l true e =
            let y = get_or (letters s) k 0 in
            let cut = laws.found s (take k (letters s)) (drop (k + 1) (letters s)) y (separator_ascii o y e) f (sym (take-append-drop k (letters s)) ∙ ap (λ x. take k (letters s) ++ x) (drop_more (letters s) k 0 l)) in
            no_separator s cut.prefix cut.suffix y h cut.joined

    pub whole : (s : List ℕ) → formed s → IsPlain o s → components o (letters s) ≡ letters s ∷ []
    whole s f h = one_component o (letters s) (plain_letters s f h)

    pub cut_letters : (s p t : List ℕ) → formed s → IsCut o s p t → formed p × (formed t × IsCut o (letters s) (letters p) (letters t))
    cut_letters s p t f c =
        let k = laws.cut p t c.separator (separator_ascii o c.separator c.parts) (subst formed c.joined f) in
        (k.0, (k.1.0, record { separator = c.separator; joined = ap letters c.joined ∙ k.1.1; parts = c.parts }))

    pub first_of : (s p t : List ℕ) → formed s → IsCut o s p t × IsPlain o p → components o (letters s) ≡ letters p ∷ components o (letters t)
    first_of s p t f (c, h) =
        let k = cut_letters s p t f c in
        first_component o (letters s) (letters p) (letters t) (k.1.1, plain_letters p k.0 h)

    pub last_of : (s p t : List ℕ) → formed s → IsCut o s p t × IsPlain o t → components o (letters s) ≡ components o (letters p) ++ letters t ∷ []
    last_of s p t f (c, h) =
        let k = cut_letters s p t f c in
        last_of_cut o (letters s) (letters p) (letters t) k.1.1 (plain_letters t k.1.0 h)

  -- a list that begins with a letter of ASCII is read of bytes that do
  pub first_found : (s ls : List ℕ) (l : ℕ) → l < 0x80 → formed s → letters s ≡ l ∷ ls → (t : List ℕ) × (s ≡ l ∷ t)
  first_found s ls l lt f e =
      let at = laws.found s [] ls l lt f e in
      let both = laws.cut at.prefix at.suffix l lt (subst formed at.joined f) in
      let none : at.prefix ≡ [] = laws.once at.prefix [] both.0 (laws.ascii [] tt).0 (at.letters_before ∙ sym no_letters) in
      (at.suffix, at.joined ∙ ap (λ z. z ++ l ∷ at.suffix) none)

  pub nothing_read : (s : List ℕ) → formed s → letters s ≡ [] → s ≡ []
  nothing_read s f e = laws.once s [] f (laws.ascii [] tt).0 (e ∙ sym no_letters)

  -- the first byte is a dot where the first letter is
  pub hidden_alike : (dot : Bool) (s : List ℕ) → formed s → is_hidden dot (letters s) ≡ is_hidden dot s
  hidden_alike false s f = refl
  hidden_alike true s f = by_letters (letters s) refl
    where
      by_letters : (ls : List ℕ) → letters s ≡ ls → is_hidden true ls ≡ is_hidden true s
      by_letters [] e = ap (is_hidden true) (sym (nothing_read s f e))
      by_letters (l ∷ ls) e = by_first s refl
        where
          dot_or_not : (v : Bool) → nat_eq l 0x2E ≡ v → (b : ℕ) (t : List ℕ) → s ≡ b ∷ t → (w : Bool) → nat_eq b 0x2E ≡ w → nat_eq l 0x2E ≡ nat_eq b 0x2E
          dot_or_not true g b t h w k =
              let is_dot : l ≡ 0x2E = eqb-true l 0x2E g in
              let found = first_found s ls l (omega (arith, is_dot)) f e in
              let same : b ∷ t ≡ l ∷ found.0 = sym h ∙ found.1 in
              let first : b ≡ l = cc in
              ap (λ z. nat_eq z 0x2E) (sym first)
          dot_or_not false g b t h false k = g ∙ sym k
          dot_or_not false g b t h true k =
              let is_dot : b ≡ 0x2E = eqb-true b 0x2E k in
              let read = first_ascii s t b (omega (arith, is_dot)) h f in
              let same : l ∷ ls ≡ b ∷ letters t = sym e ∙ read.1 in
              let first : l ≡ b = cc in
              ap (λ z. nat_eq z 0x2E) first

          by_first : (bytes : List ℕ) → s ≡ bytes → nat_eq l 0x2E ≡ is_hidden true s
          by_first [] h = let never : l ∷ ls ≡ [] = sym e ∙ ap letters h ∙ no_letters in cc
          by_first (b ∷ t) h = dot_or_not (nat_eq l 0x2E) refl b t h (nat_eq b 0x2E) refl ∙ ap (is_hidden true) (sym h)

  pub ascii_step : (s t : List ℕ) (b l : ℕ) → s ≡ b ∷ t → b < 0x80 → l ≡ b → formed s → IsFirstLetter formed letters s l t
  ascii_step s t b l e lt same f =
      let k = first_ascii s t b lt e f in
      record { letters_are = k.1 ∙ ap (λ z. z ∷ letters t) (sym same); formed_after = k.0; shorter = omega (arith, ap length e) }
