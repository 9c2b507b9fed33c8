-- An escaped text is read as one mark for each letter, which matches it alone.
use Rattle.std.proofs.Common.{◌≡◌, ◌↔◌, ℕ, Bool, true, false, nat_eq, nat_le, cond, ◌&&◌, ◌||◌, List, [], ◌∷◌, ◌++◌, map, Some, None, refl, sym, ap, ◌∙◌, subst, arith, IsTrue}
use Rattle.std.proofs.lemmas.Bool.{leb-true, le-leb}
use Rattle.wildcards.specs.declared.piece.Piece.TheVariants.{One}
use Rattle.wildcards.specs.declared.range.Range.{Range}
use Rattle.wildcards.specs.declared.separators.Separators.{Separators}
use Rattle.wildcards.specs.declared.separators.Separators.TheVariants as separators
use Rattle.wildcards.specs.Components.{separates}
use Rattle.wildcards.specs.Ranges.{permits}
use Rattle.glob_text.specs.declared.class_text.ClassLetter.{ClassLetter}
use Rattle.glob_text.specs.declared.class_text.Before.{Before}
use Rattle.glob_text.specs.declared.class_text.Before.TheVariants.{First, From}
use Rattle.glob_text.specs.declared.fault.PatternFault.{PatternFault}
use Rattle.glob_text.specs.declared.mark.Kind.{Kind}
use Rattle.glob_text.specs.declared.mark.Kind.TheVariants.{Quote, Star, Question, Bracket, Open, Comma, Close, Literal}
use Rattle.glob_text.specs.declared.symbol.Symbol.{Symbol}
use Rattle.glob_text.specs.declared.syntax.Syntax.{Syntax}
use Rattle.glob_text.specs.Alternatives.{is_itself}
use Rattle.glob_text.specs.ClassText.{broken, closed, member, after_letter, member_at, IsMember, IsClass, IsClassFault, negation, quoted_letter, with_text, with_range, range_at, named_text, is_plain, ends_name}
use Rattle.glob_text.specs.Escape.{is_literal, quoted, escaped_letter, escaped}
use Rattle.glob_text.specs.Marks.{Mark, literal, one_of, is_quoting, kind_of, MarkAt, MarkFault, IsMark, IsFaultHere, IsMarkFault, AreMarks}
use Rattle.glob_text.specs.Meaning.{FitsMark, mark_piece, begins_dotted}
use Rattle.wildcards.specs.ClassName.{range}
use Rattle.glob_text.specs.Parts.{is_separator, is_doubled}
use Rattle.wildcards.specs.Items.{Reads, concat_of}
use Rattle.glob_text.proofs.lemmas.EscapedLetters.{special, plain_letter, special_letter}

-- the mark matches this letter alone
pub record IsOnly (o : Separators) (m : Mark) (l : ℕ) : Type 0 where
  pub itself : is_itself true m ≡ true
  pub fits : (x : ℕ) → FitsMark m x ↔ (x ≡ l)
  pub piece : mark_piece m ≡ One m
  pub single : is_doubled m ≡ false
  pub separator : is_separator o m ≡ separates o l
  pub dotted : (ms : List Mark) → begins_dotted (m ∷ ms) ≡ nat_eq l 0x2E

-- so each
abbrev pub AreOnly : Separators → List Mark → List ℕ → Type 0
AreOnly o [] [] = Unit {0}
AreOnly o [] (l ∷ ls) = ⊥
AreOnly o (m ∷ ms) [] = ⊥
AreOnly o (m ∷ ms) (l ∷ ls) = IsOnly o m l × AreOnly o ms ls

literal_only : (o : Separators) (l : ℕ) → IsOnly o (literal l) l
literal_only o l = record { itself = refl; fits = λ x. (λ e. sym e, λ e. sym e); piece = refl; single = refl; separator = refl; dotted = λ ms. refl }

-- what a letter is that is alone in a class
record IsMemberAlone (l : ℕ) : Type 0 where
  no_sign : (nat_eq l 0x21 || nat_eq l 0x5E) ≡ false
  no_quote : nat_eq l 0x5C ≡ false
  no_slash : nat_eq l 0x2F ≡ false
  no_dot : nat_eq l 0x2E ≡ false

member_alone : (l : ℕ) → is_literal (kind_of false l) ≡ false → IsMemberAlone l
member_alone l = special false l IsMemberAlone (λ e. let never : false ≡ true = e in absurd cc)
    (record { no_sign = refl; no_quote = refl; no_slash = refl; no_dot = refl })
    (record { no_sign = refl; no_quote = refl; no_slash = refl; no_dot = refl })
    (record { no_sign = refl; no_quote = refl; no_slash = refl; no_dot = refl })
    (record { no_sign = refl; no_quote = refl; no_slash = refl; no_dot = refl })
    (record { no_sign = refl; no_quote = refl; no_slash = refl; no_dot = refl })
    (record { no_sign = refl; no_quote = refl; no_slash = refl; no_dot = refl })

not_in_separators : (o : Separators) (l : ℕ) → IsMemberAlone l → separates o l ≡ false
not_in_separators separators.None l h = refl
not_in_separators separators.Slash l h = h.no_slash
not_in_separators separators.SlashAndBackslash l h = ap (λ b. b || nat_eq l 0x5C) h.no_slash ∙ h.no_quote

in_one : (l x : ℕ) → IsTrue (permits false (range l l ∷ []) x) → x ≡ l
in_one l x e = by_tests (nat_le l x) (nat_le x l) refl refl e
  where
    by_tests : (b c : Bool) → nat_le l x ≡ b → nat_le x l ≡ c → ((b && c) || false) ≡ true → x ≡ l
    by_tests true true f g k = omega (arith, leb-true l x f, leb-true x l g)
    by_tests true false f g k = let never : false ≡ true = k in absurd cc
    by_tests false c f g k = let never : false ≡ true = k in absurd cc

one_in : (l x : ℕ) → x ≡ l → IsTrue (permits false (range l l ∷ []) x)
one_in l x e =
    let k : ((nat_le l l && nat_le l l) || false) ≡ true = ap (λ b. (b && b) || false) (le-leb l l (omega arith)) in
    subst (λ z. IsTrue (permits false (range l l ∷ []) z)) (sym e) k

class_only : (o : Separators) (l : ℕ) → IsMemberAlone l → IsOnly o (one_of false (range l l ∷ [])) l
class_only o l h = record {
  itself = refl;
  fits = λ x. (in_one l x, one_in l x);
  piece = refl;
  single = refl;
  separator = sym (not_in_separators o l h);
  dotted = λ ms. sym h.no_dot;
}

-- a class of one letter
module _ (quotes : Bool) (index : ℕ) (y z : Symbol) (tail : List Symbol) (alone : IsMemberAlone y.letter) (close : z.letter ≡ 0x5D) where
  abbrev text : List Symbol
  text = y ∷ z ∷ tail

  unquoted : (n : ℕ) → nat_eq n 0x5C ≡ false → (quotes && nat_eq n 0x5C) ≡ false
  unquoted n e = ap (λ b. quotes && b) e ∙ never quotes
    where
      never : (b : Bool) → (b && false) ≡ false
      never true = refl
      never false = refl

  abbrev plain : Symbol → ClassLetter
  plain s = record { symbol = s; quoted = false }

  no_name : named_text (plain y) (z ∷ tail) ≡ None
  no_name = ap (λ n. cond ((is_plain (plain y) 0x5B && nat_eq n 0x3A) && ends_name false tail) (Some tail) None) close ∙ by_first (is_plain (plain y) 0x5B)
    where
      by_first : (c : Bool) → cond ((c && false) && ends_name false tail) (Some tail) None ≡ None
      by_first true = refl
      by_first false = refl

  first_read : member_at quotes index First text ≡ member (range y.letter y.letter ∷ []) (From y) (z ∷ tail)
  first_read =
      ap (λ b. after_letter quotes index First (cond b (quoted_letter (z ∷ tail)) (Some (plain y, z ∷ tail)))) (unquoted y.letter alone.no_quote)
      ∙ ap (with_text (plain y) (z ∷ tail)) no_name

  second_read : member_at quotes index (From y) (z ∷ tail) ≡ closed tail
  second_read =
      ap (λ b. after_letter quotes index (From y) (cond b (quoted_letter tail) (Some (plain z, tail)))) (unquoted z.letter (ap (λ n. nat_eq n 0x5C) close))
      ∙ ap (λ n. cond (nat_eq n 0x5D) (closed tail) (with_range (plain z) tail (range_at quotes (From y) (plain z) tail))) close

  abbrev start_of : List Symbol → Before × List Symbol
  start_of left = (First, left)

  not_negated : negation text ≡ (false, text)
  not_negated = ap (λ b. cond b (true, z ∷ tail) (false, text)) alone.no_sign

  one_member : (rs : List Range) (s : Before × List Symbol) → IsMember quotes index (First, text) rs s → (rs ≡ range y.letter y.letter ∷ []) × (s.0 ≡ From y) × (s.1 ≡ z ∷ tail)
  one_member rs s i =
      let e : member rs s.0 s.1 ≡ member (range y.letter y.letter ∷ []) (From y) (z ∷ tail) = sym i ∙ first_read in (
        let k : rs ≡ range y.letter y.letter ∷ [] = cc in k,
        let k : s.0 ≡ From y = cc in k,
        let k : s.1 ≡ z ∷ tail = cc in k,
      )

  closes_after : (s left : Before × List Symbol) → s.0 ≡ From y → s.1 ≡ z ∷ tail → s ≡ left → member_at quotes index left.0 left.1 ≡ closed tail
  closes_after s left e f g = ap (λ z. member_at quotes index z.0 z.1) (sym g) ∙ ap (λ b. member_at quotes index b s.1) e ∙ ap (member_at quotes index (From y)) f ∙ second_read

  -- what is read up to what is left
  abbrev Read : List (List Range) → Before × List Symbol → Type 0
  Read lists left = Reads (IsMember quotes index) (First, text) lists left

  read_from : (lists : List (List Range)) (left : Before × List Symbol) → Reads (IsMember quotes index) (First, (negation text).1) lists left → Read lists left
  read_from lists left r = subst (λ n. Reads (IsMember quotes index) (First, n.1) lists left) not_negated r

  no_second : (s t : Before × List Symbol) (rs : List Range) → s.0 ≡ From y → s.1 ≡ z ∷ tail → IsMember quotes index s rs t → ⊥
  no_second s t rs e f i = let never : closed tail ≡ member rs t.0 t.1 = sym (closes_after s s e f refl) ∙ i in cc

  -- it is that letter
  one_class : (negated : Bool) (ranges : List Range) (rest : List Symbol) → IsClass quotes index text negated ranges rest → (negated ≡ false) × (ranges ≡ range y.letter y.letter ∷ []) × (rest ≡ tail)
  one_class negated ranges rest c = by_lists c.read.lists (read_from c.read.lists c.left c.read.read) c.read.joined
    where
      by_lists : (lists : List (List Range)) → Read lists c.left → ranges ≡ concat_of lists → (negated ≡ false) × (ranges ≡ range y.letter y.letter ∷ []) × (rest ≡ tail)
      by_lists [] r e = let never : member (range y.letter y.letter ∷ []) (From y) (z ∷ tail) ≡ closed rest = sym first_read ∙ ap (λ s. member_at quotes index s.0 s.1) r ∙ c.ends in absurd cc
      by_lists (rs ∷ []) r e =
          let one = one_member rs r.0 r.1 in
          let k : closed tail ≡ closed rest = sym (closes_after r.0 c.left one.1 one.2 r.2) ∙ c.ends in (
            c.sign ∙ ap (λ n. n.0) not_negated,
            e ∙ ap (λ z. z ++ []) one.0,
            let same : rest ≡ tail = cc in same,
          )
      by_lists (rs ∷ ss ∷ lists) r e = let one = one_member rs r.0 r.1 in absurd (no_second r.0 r.2.0 ss one.1 one.2 r.2.1)

  no_class_fault : (fault : PatternFault) → IsClassFault quotes index text fault → ⊥
  no_class_fault fault c = by_lists c.read.lists (read_from c.read.lists c.left c.read.read)
    where
      by_lists : (lists : List (List Range)) → Read lists c.left → ⊥
      by_lists [] r = let never : member (range y.letter y.letter ∷ []) (From y) (z ∷ tail) ≡ broken fault = sym first_read ∙ ap (λ s. member_at quotes index s.0 s.1) r ∙ c.stops in cc
      by_lists (rs ∷ []) r =
          let one = one_member rs r.0 r.1 in
          let never : closed tail ≡ broken fault = sym (closes_after r.0 c.left one.1 one.2 r.2) ∙ c.stops in cc
      by_lists (rs ∷ ss ∷ lists) r = let one = one_member rs r.0 r.1 in no_second r.0 r.2.0 ss one.1 one.2 r.2.1

-- what is read of a letter that is escaped
module _ (o : Syntax) where
  record OneRead (l : ℕ) (ys : List Symbol) (later : List ℕ) : Type 0 where
    tail : List Symbol
    letters : map (λ s. s.letter) tail ≡ later
    some : ys ≡ [] → ⊥
    mark : (m : Mark) (rest : List Symbol) → IsMark o ys m rest → IsOnly o.separators m l × (rest ≡ tail)
    no_fault : (fault : PatternFault) → IsFaultHere o ys fault → ⊥

  at_kind : (k : Kind) (x : Symbol) (xs : List Symbol) (m : Mark) (rest : List Symbol) → kind_of (is_quoting o) x.letter ≡ k → IsMark o (x ∷ xs) m rest → MarkAt o k x xs m rest
  at_kind k x xs m rest e h = subst (λ k. MarkAt o k x xs m rest) e h

  fault_at : (k : Kind) (x : Symbol) (xs : List Symbol) (fault : PatternFault) → kind_of (is_quoting o) x.letter ≡ k → IsFaultHere o (x ∷ xs) fault → MarkFault o k x xs fault
  fault_at k x xs fault e h = subst (λ k. MarkFault o k x xs fault) e h

  literal_kind : (k : Kind) → is_literal k ≡ true → k ≡ Literal
  literal_kind Quote e = let never : false ≡ true = e in absurd cc
  literal_kind Star e = let never : false ≡ true = e in absurd cc
  literal_kind Question e = let never : false ≡ true = e in absurd cc
  literal_kind Bracket e = let never : false ≡ true = e in absurd cc
  literal_kind Open e = let never : false ≡ true = e in absurd cc
  literal_kind Comma e = let never : false ≡ true = e in absurd cc
  literal_kind Close e = let never : false ≡ true = e in absurd cc
  literal_kind Literal e = refl

  plain_read : (l : ℕ) (ys : List Symbol) (later : List ℕ) → is_literal (kind_of (is_quoting o) l) ≡ true → map (λ s. s.letter) ys ≡ l ∷ later → OneRead l ys later
  plain_read l [] later k e = let never : [] ≡ l ∷ later = e in absurd cc
  plain_read l (x ∷ xs) later k e =
      let first : x.letter ≡ l = cc in
      let rest : map (λ s. s.letter) xs ≡ later = cc in
      let kind : kind_of (is_quoting o) x.letter ≡ Literal = ap (kind_of (is_quoting o)) first ∙ literal_kind _ k in
      record {
        tail = xs;
        letters = rest;
        some = λ f. let never : x ∷ xs ≡ [] = f in cc;
        mark = λ m left i. let a = at_kind Literal x xs m left kind i in
            (subst (λ z. IsOnly o.separators z l) (sym (a.0 ∙ ap literal first)) (literal_only o.separators l), a.1);
        no_fault = λ fault i. fault_at Literal x xs fault kind i;
      }

  quoted_read : (l : ℕ) (ys : List Symbol) (later : List ℕ) → is_quoting o ≡ true → map (λ s. s.letter) ys ≡ 0x5C ∷ l ∷ later → OneRead l ys later
  quoted_read l [] later q e = let never : [] ≡ 0x5C ∷ l ∷ later = e in absurd cc
  quoted_read l (x ∷ []) later q e = let never : x.letter ∷ [] ≡ 0x5C ∷ l ∷ later = e in absurd cc
  quoted_read l (x ∷ y ∷ tail) later q e =
      let first : x.letter ≡ 0x5C = cc in
      let second : y.letter ≡ l = cc in
      let rest : map (λ s. s.letter) tail ≡ later = cc in
      let kind : kind_of (is_quoting o) x.letter ≡ Quote = ap (λ b. kind_of b x.letter) q ∙ ap (kind_of true) first in
      record {
        tail = tail;
        letters = rest;
        some = λ f. let never : x ∷ y ∷ tail ≡ [] = f in cc;
        mark = λ m left i. let a = at_kind Quote x (y ∷ tail) m left kind i in
            let j : y ∷ tail ≡ a.0 ∷ left = a.2 in
            let s : a.0 ≡ y = cc in
            let t : left ≡ tail = cc in
            (subst (λ z. IsOnly o.separators z l) (sym (a.1 ∙ ap (λ z. literal z.letter) s ∙ ap literal second)) (literal_only o.separators l), t);
        no_fault = λ fault i. let a = fault_at Quote x (y ∷ tail) fault kind i in let never : y ∷ tail ≡ [] = a.0 in cc;
      }

  class_read : (l : ℕ) (ys : List Symbol) (later : List ℕ) → is_quoting o ≡ false → IsMemberAlone l → map (λ s. s.letter) ys ≡ 0x5B ∷ l ∷ 0x5D ∷ later → OneRead l ys later
  class_read l [] later q h e = let never : [] ≡ 0x5B ∷ l ∷ 0x5D ∷ later = e in absurd cc
  class_read l (x ∷ []) later q h e = let never : x.letter ∷ [] ≡ 0x5B ∷ l ∷ 0x5D ∷ later = e in absurd cc
  class_read l (x ∷ y ∷ []) later q h e = let never : x.letter ∷ y.letter ∷ [] ≡ 0x5B ∷ l ∷ 0x5D ∷ later = e in absurd cc
  class_read l (x ∷ y ∷ z ∷ tail) later q h e =
      let first : x.letter ≡ 0x5B = cc in
      let second : y.letter ≡ l = cc in
      let third : z.letter ≡ 0x5D = cc in
      let rest : map (λ s. s.letter) tail ≡ later = cc in
      let kind : kind_of (is_quoting o) x.letter ≡ Bracket = ap (λ b. kind_of b x.letter) q ∙ ap (kind_of false) first in
      let alone : IsMemberAlone y.letter = subst IsMemberAlone (sym second) h in
      record {
        tail = tail;
        letters = rest;
        some = λ f. let never : x ∷ y ∷ z ∷ tail ≡ [] = f in cc;
        mark = λ m left i. let a = at_kind Bracket x (y ∷ z ∷ tail) m left kind i in
            let c = one_class o.class_escapes x.index y z tail alone third a.0 a.1 left a.3 in
            (subst (λ z. IsOnly o.separators z l) (sym (a.2 ∙ ap (λ z. one_of z a.1) c.0 ∙ ap (one_of false) c.1 ∙ ap (λ z. one_of false (range z z ∷ [])) second)) (class_only o.separators l h), c.2);
        no_fault = λ fault i. no_class_fault o.class_escapes x.index y z tail alone third fault (fault_at Bracket x (y ∷ z ∷ tail) fault kind i);
      }

  one_read : (l : ℕ) (ys : List Symbol) (later : List ℕ) → map (λ s. s.letter) ys ≡ escaped_letter (is_quoting o) l ++ later → OneRead l ys later
  one_read l ys later e = by_kind (is_literal (kind_of (is_quoting o) l)) refl (is_quoting o) refl
    where
      by_kind : (b : Bool) → is_literal (kind_of (is_quoting o) l) ≡ b → (q : Bool) → is_quoting o ≡ q → OneRead l ys later
      by_kind true k q f = plain_read l ys later k (e ∙ ap (λ z. z ++ later) (plain_letter (is_quoting o) l k))
      by_kind false k true f = quoted_read l ys later f (e ∙ ap (λ z. z ++ later) (special_letter (is_quoting o) l k) ∙ ap (λ z. quoted z l ++ later) f)
      by_kind false k false f = class_read l ys later f (member_alone l (ap (λ z. is_literal (kind_of z l)) (sym f) ∙ k)) (e ∙ ap (λ z. z ++ later) (special_letter (is_quoting o) l k) ∙ ap (λ z. quoted z l ++ later) f)

  -- the marks are one for each letter
  pub marks_only : (ls : List ℕ) (ys : List Symbol) (marks : List Mark) → map (λ s. s.letter) ys ≡ escaped (is_quoting o) ls → AreMarks o ys marks → AreOnly o.separators marks ls
  marks_only [] [] [] e r = tt
  marks_only [] [] (m ∷ ms) e r = absurd r.1
  marks_only [] (y ∷ ys) marks e r = let never : y.letter ∷ map (λ s. s.letter) ys ≡ [] = e in absurd cc
  marks_only (l ∷ ls) ys [] e r = absurd ((one_read l ys (escaped (is_quoting o) ls) e).some r)
  marks_only (l ∷ ls) ys (m ∷ ms) e r =
      let h = one_read l ys (escaped (is_quoting o) ls) e in
      let k = h.mark m r.0 r.1 in
      (k.0, marks_only ls h.tail ms h.letters (subst (λ z. Reads (IsMark o) z ms []) k.1 r.2))

  -- none is at fault
  fault_after : (ls : List ℕ) (ys : List Symbol) (marks : List Mark) (left : List Symbol) (fault : PatternFault) → map (λ s. s.letter) ys ≡ escaped (is_quoting o) ls → Reads (IsMark o) ys marks left → IsFaultHere o left fault → ⊥
  fault_after [] [] [] left fault e r here = subst (λ z. IsFaultHere o z fault) (sym r) here
  fault_after [] [] (m ∷ ms) left fault e r here = absurd r.1
  fault_after [] (y ∷ ys) marks left fault e r here = let never : y.letter ∷ map (λ s. s.letter) ys ≡ [] = e in absurd cc
  fault_after (l ∷ ls) ys [] left fault e r here = (one_read l ys (escaped (is_quoting o) ls) e).no_fault fault (subst (λ z. IsFaultHere o z fault) (sym r) here)
  fault_after (l ∷ ls) ys (m ∷ ms) left fault e r here =
      let h = one_read l ys (escaped (is_quoting o) ls) e in
      let k = h.mark m r.0 r.1 in
      fault_after ls h.tail ms left fault h.letters (subst (λ z. Reads (IsMark o) z ms left) k.1 r.2) here

  pub no_mark_fault : (ls : List ℕ) (ys : List Symbol) (fault : PatternFault) → map (λ s. s.letter) ys ≡ escaped (is_quoting o) ls → IsMarkFault o ys fault → ⊥
  no_mark_fault ls ys fault e f = fault_after ls ys f.marks f.left fault e f.read f.here
