-- Where no name of a class ends.
use Rattle.std.proofs.Common.{◌≡◌, ◌<◌, ◌≤◌, ◌+◌, ◌&&◌, not, nat_eq, cond, ℕ, Bool, true, false, Option, Some, None, List, [], ◌∷◌, ◌++◌, length, refl, sym, ap, ◌∙◌, subst, arith, append_assoc, length-append}
use Rattle.os_ignore.specs.declared.letter.Letter.{Letter}
use Rattle.wildcards.specs.declared.class_name.ClassName.{ClassName}
use Rattle.os_ignore.specs.declared.class.Member.{Member}
use Rattle.os_ignore.specs.declared.class_text.Before.{Before}
use Rattle.os_ignore.specs.declared.class_text.Before.TheVariants.{First, Byte, Nothing}
use Rattle.os_ignore.specs.Letters.{is_plain}
use Rattle.wildcards.specs.ClassName.{all_names, name_text}
use Rattle.os_ignore.specs.ClassText.{Reading, member, after_text, or_name, known_name, ends_name, named_text, closes, range_at, with_name, with_text, with_range, member_at}
use Rattle.os_ignore.specs.ClassSteps.{from_bracket, AreNameless, AreNamelessWithin}

at_start : (colon : Bool) (letters : List Letter) → ends_name colon letters ≡ false → ends_name false letters ≡ false
at_start colon [] e = refl
at_start colon (l ∷ ls) e = go (nat_eq l.byte 0x5D) e
  where
    go : (v : Bool) → cond v (colon && not l.quoted) (ends_name (nat_eq l.byte 0x3A) ls) ≡ false → cond v (false && not l.quoted) (ends_name (nat_eq l.byte 0x3A) ls) ≡ false
    go true f = refl
    go false f = f

-- if the first `]` ends no name, no suffix of the letters that still has it begins with one
pub nameless : (colon : Bool) (letters : List Letter) → ends_name colon letters ≡ false → (front ys : List Letter) → letters ≡ front ++ ys → length (from_bracket letters) ≤ length ys → ends_name false ys ≡ false
nameless colon letters e [] ys f l = subst (λ z. ends_name false z ≡ false) f (at_start colon letters e)
nameless colon [] e (x ∷ front) ys f l = let never : [] ≡ x ∷ (front ++ ys) = f in absurd cc
nameless colon (x ∷ letters) e (y ∷ front) ys f l =
    let tail : letters ≡ front ++ ys = cc in
    go tail (λ g k. nameless (nat_eq x.byte 0x3A) letters g front ys tail k) (nat_eq x.byte 0x5D) e l
  where
    go : letters ≡ front ++ ys → (ends_name (nat_eq x.byte 0x3A) letters ≡ false → length (from_bracket letters) ≤ length ys → ends_name false ys ≡ false) → (v : Bool) → cond v (colon && not x.quoted) (ends_name (nat_eq x.byte 0x3A) letters) ≡ false → length (cond v (x ∷ letters) (from_bracket letters)) ≤ length ys → ends_name false ys ≡ false
    go tail rest true g k =
        let long : length letters ≡ length front + length ys = ap length tail ∙ length-append front ys in
        absurd (omega arith)
    go tail rest false g k = rest g k

module _ (n : ℕ) where
  pub after_two : (a b : Letter) (letters : List Letter) → AreNamelessWithin n (a ∷ b ∷ letters) → AreNameless n letters
  after_two a b letters h front ys f l = h (a ∷ b ∷ front) ys (ap (λ z. a ∷ b ∷ z) f) (omega arith) l

  pub before_two : (a b : Letter) (letters : List Letter) → AreNameless n letters → AreNamelessWithin n (a ∷ b ∷ letters)
  before_two a b letters h [] ys f more l = absurd (omega arith)
  before_two a b letters h (x ∷ []) ys f more l = absurd (omega arith)
  before_two a b letters h (x ∷ y ∷ front) ys f more l = let tail : letters ≡ front ++ ys = cc in h front ys tail l

  pub none_yet : (letters : List Letter) → length letters < n → AreNamelessWithin n letters
  none_yet letters s front ys f more l =
      let long : length letters ≡ length front + length ys = ap length f ∙ length-append front ys in
      absurd (omega arith)

  within_rest : (some rest letters : List Letter) → letters ≡ some ++ rest → AreNamelessWithin n letters → AreNamelessWithin n rest
  within_rest some rest letters e h front ys f more l =
      h (some ++ front) ys (e ∙ ap (λ z. some ++ z) f ∙ sym (append_assoc some front ys)) (let k : length (some ++ front) ≡ length some + length front = length-append some front in omega arith) l

-- the rest ends the letters
abbrev IsRest : List Letter → List Letter → Type 0
IsRest letters rest = (front : List Letter) × (letters ≡ front ++ rest)

one_less : (l : Letter) (letters rest : List Letter) → IsRest letters rest → IsRest (l ∷ letters) rest
one_less l letters rest h = (l ∷ h.0, ap (λ z. l ∷ z) h.1)

text_rest : (text : List ℕ) (letters rest : List Letter) → after_text text letters ≡ Some rest → IsRest letters rest
text_rest [] letters rest e = ([], cc)
text_rest (b ∷ bs) [] rest e = absurd cc
text_rest (b ∷ bs) (l ∷ ls) rest e = go (λ f. text_rest bs ls rest f) (is_plain l b) e
  where
    go : (after_text bs ls ≡ Some rest → IsRest ls rest) → (v : Bool) → cond v (after_text bs ls) None ≡ Some rest → IsRest (l ∷ ls) rest
    go more true f = one_less l ls rest (more f)
    go more false f = absurd cc

name_rest : (names : List ClassName) (letters : List Letter) (known : ClassName × List Letter) → known_name names letters ≡ Some known → IsRest letters known.1
name_rest [] letters known e = absurd cc
name_rest (name ∷ names) letters known e = go (λ g. name_rest names letters known g) (after_text (name_text name) letters) refl e
  where
    go : (known_name names letters ≡ Some known → IsRest letters known.1) → (o : Option (List Letter)) → after_text (name_text name) letters ≡ o → or_name name o (known_name names letters) ≡ Some known → IsRest letters known.1
    go more None f g = more g
    go more (Some rest) f g = let same : (name, rest) ≡ known = cc in text_rest (name_text name) letters known.1 (f ∙ ap (λ z. Some z.1) same)

named_rest : (l : Letter) (letters text : List Letter) → named_text l letters ≡ Some text → IsRest letters text
named_rest l [] text e = absurd cc
named_rest l (c ∷ ls) text e = go ((is_plain l 0x5B && is_plain c 0x3A) && ends_name false ls) e
  where
    go : (v : Bool) → cond v (Some ls) None ≡ Some text → IsRest (c ∷ ls) text
    go true f = (c ∷ [], cc)
    go false f = absurd cc

range_rest : (before : Before) (l : Letter) (letters : List Letter) (range : ℕ × ℕ × List Letter) → range_at before l letters ≡ Some range → IsRest letters range.2
range_rest First l letters range e = absurd cc
range_rest Nothing l letters range e = absurd cc
range_rest (Byte from) l [] range e = absurd cc
range_rest (Byte from) l (to ∷ ls) range e = go (is_plain l 0x2D && not (is_plain to 0x5D)) e
  where
    go : (v : Bool) → cond v (Some (from, to.byte, ls)) None ≡ Some range → IsRest (to ∷ ls) range.2
    go true f = (to ∷ [], cc)
    go false f = absurd cc

member_rest : (before : Before) (letters : List Letter) (m : Member) (after : Before) (rest : List Letter) → member_at before letters ≡ member m after rest → IsRest letters rest
member_rest before [] m after rest e = absurd cc
member_rest before (l ∷ ls) m after rest e = closing (closes before l) e
  where
    known : (o : Option (ClassName × List Letter)) (text : List Letter) → known_name all_names text ≡ o → with_name o ≡ member m after rest → IsRest text rest
    known None text f g = absurd cc
    known (Some name) text f g = let same : name.1 ≡ rest = cc in subst (IsRest text) same (name_rest all_names text name f)

    beyond : (text : List Letter) → IsRest ls text → IsRest text rest → IsRest ls rest
    beyond text (front, e) (more, f) = (front ++ more, e ∙ ap (λ z. front ++ z) f ∙ sym (append_assoc front more rest))

    text : (o : Option (List Letter)) → named_text l ls ≡ o → with_text l ls o ≡ member m after rest → IsRest ls rest
    text None f g = ([], cc)
    text (Some own) f g = beyond own (named_rest l ls own f) (known (known_name all_names own) own refl g)

    range : (o : Option (ℕ × ℕ × List Letter)) → range_at before l ls ≡ o → with_range l ls o ≡ member m after rest → IsRest ls rest
    range None f g = text (named_text l ls) refl g
    range (Some r) f g = let same : r.2 ≡ rest = cc in subst (IsRest ls) same (range_rest before l ls r f)

    closing : (v : Bool) → cond v (Reading.closed ls) (with_range l ls (range_at before l ls)) ≡ member m after rest → IsRest (l ∷ ls) rest
    closing true f = absurd cc
    closing false f = one_less l ls rest (range (range_at before l ls) refl f)

pub within_member : (n : ℕ) (before : Before) (letters : List Letter) (m : Member) (after : Before) (rest : List Letter) → member_at before letters ≡ member m after rest → AreNamelessWithin n letters → AreNamelessWithin n rest
within_member n before letters m after rest e h =
    let r = member_rest before letters m after rest e in
    within_rest n r.0 rest letters r.1 h
