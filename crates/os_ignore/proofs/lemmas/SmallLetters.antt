-- Texts by their small letters, which are what tags are made of.
use Rattle.std.proofs.Common.{◌≡◌, ◌&&◌, nat_eq, not, cond, ℕ, Bool, true, false, map, List, [], ◌∷◌, ◌++◌, refl, sym, ap, ◌∙◌, subst, arith}
use Rattle.std.specs.Char.{to_ascii_lowercase}
use Rattle.std.specs.List.{AllByRecursion}
use Rattle.std.proofs.Common.{◌<◌, ◌≤◌, nat_lt, eq-eqb}
use Rattle.std.proofs.lemmas.Bool.{eqb-true}
use Rattle.std.proofs.lemmas.Bool.Decides.{nat_tests}
use Rattle.std.proofs.lemmas.List.Elements.{recursion_from_All, All-from_recursion}
use Rattle.std.proofs.lemmas.List.{map-append}
use Rattle.std.proofs.lemmas.Str.Ascii.{lowercase_is, lowercase-lowercase}
use Rattle.os_ignore.specs.declared.letter.Letter.{Letter}
use Rattle.os_ignore.specs.Components.{IsPlain, IsCut}
use Rattle.os_ignore.specs.Letters.{own_byte, is_simple, kind_of, matches_itself}
use Rattle.os_ignore.specs.Tags.{tag_after, tag_of}

-- the texts differ in capital letters of ASCII only
abbrev pub AreAlike : List ℕ → List ℕ → Type 0
AreAlike text other = map to_ascii_lowercase text ≡ map to_ascii_lowercase other

small_again : (text : List ℕ) → map to_ascii_lowercase (map to_ascii_lowercase text) ≡ map to_ascii_lowercase text
small_again [] = refl
small_again (b ∷ bs) = ap (λ z. z ∷ map to_ascii_lowercase (map to_ascii_lowercase bs)) (lowercase-lowercase b) ∙ ap (λ z. to_ascii_lowercase b ∷ z) (small_again bs)

-- a text whose small letters are the other
pub alike : (text other : List ℕ) → map to_ascii_lowercase text ≡ other → AreAlike text other
alike text other e = sym (small_again text) ∙ ap (map to_ascii_lowercase) e

pub same_tag : (text other : List ℕ) → AreAlike text other → tag_of text ≡ tag_of other
same_tag text other e = ap (tag_after 0) e

-- no capital is a slash or a dot, nor is its small letter
same_low : (c x : ℕ) → c < 0x41 → to_ascii_lowercase x ≡ c → x ≡ c
same_low c x l e = by_first (nat_lt x 0x41) refl
  where
    by_last : (v : Bool) → nat_lt 0x5A x ≡ v → (x < 0x41 → ⊥) → x ≡ c
    by_last true f n = let k : 0x5A < x = grind (arith, nat_tests) in let g = (lowercase_is x).2 k in omega arith
    by_last false f n = let k : x ≤ 0x5A = grind (arith, nat_tests) in let m : 0x41 ≤ x = omega arith in let g = (lowercase_is x).0 (m, k) in absurd (omega arith)

    by_first : (v : Bool) → nat_lt x 0x41 ≡ v → x ≡ c
    by_first true f = let k : x < 0x41 = grind (arith, nat_tests) in let g = (lowercase_is x).1 k in omega arith
    by_first false f = by_last (nat_lt 0x5A x) refl (λ k. let m : 0x41 ≤ x = grind (arith, nat_tests) in omega arith)

low_same : (c : ℕ) → c < 0x41 → to_ascii_lowercase c ≡ c
low_same c l = (lowercase_is c).1 l

not_low : (c x : ℕ) → c < 0x41 → nat_eq (to_ascii_lowercase x) c ≡ false → nat_eq x c ≡ false
not_low c x l e = go (nat_eq x c) refl
  where
    go : (v : Bool) → nat_eq x c ≡ v → nat_eq x c ≡ false
    go false f = f
    go true f =
        let same : x ≡ c = eqb-true x c f in
        let low : to_ascii_lowercase x ≡ c = ap to_ascii_lowercase same ∙ low_same c l in
        let never : false ≡ true = sym e ∙ eq-eqb (to_ascii_lowercase x) c low in cc

plain_low : (c : ℕ) (s : List ℕ) → c < 0x41 → AllByRecursion (λ b. nat_eq b c ≡ false) (map to_ascii_lowercase s) → AllByRecursion (λ b. nat_eq b c ≡ false) s
plain_low c [] l h = tt
plain_low c (x ∷ s) l h = (not_low c x l h.0, plain_low c s l h.1)

-- a text is cut at a dot or a slash where its small letters are
record IsSmallCut (c : ℕ) (text front back : List ℕ) : Type 0 where
  before : List ℕ
  after : List ℕ
  cut : IsCut c text before after
  before_is : map to_ascii_lowercase before ≡ front
  after_is : map to_ascii_lowercase after ≡ back

small_cut : (c : ℕ) → c < 0x41 → (text front back : List ℕ) → map to_ascii_lowercase text ≡ front ++ c ∷ back → IsSmallCut c text front back
small_cut c l [] [] back e = let never : [] ≡ c ∷ back = e in absurd cc
small_cut c l [] (y ∷ front) back e = let never : [] ≡ y ∷ (front ++ c ∷ back) = e in absurd cc
small_cut c l (x ∷ text) [] back e =
    let j : to_ascii_lowercase x ∷ map to_ascii_lowercase text ≡ c ∷ back = e in
    let f : to_ascii_lowercase x ≡ c = cc in
    let g : map to_ascii_lowercase text ≡ back = cc in
    record { before = []; after = text; cut = ap (λ z. z ∷ text) (same_low c x l f); before_is = refl; after_is = g }
small_cut c l (x ∷ text) (y ∷ front) back e =
    let j : to_ascii_lowercase x ∷ map to_ascii_lowercase text ≡ y ∷ (front ++ c ∷ back) = e in
    let f : to_ascii_lowercase x ≡ y = cc in
    let g : map to_ascii_lowercase text ≡ front ++ c ∷ back = cc in
    let h = small_cut c l text front back g in
    record { before = x ∷ h.before; after = h.after; cut = ap (λ z. x ∷ z) h.cut; before_is = ap (λ z. z ∷ map to_ascii_lowercase h.before) f ∙ ap (λ z. y ∷ z) h.before_is; after_is = h.after_is }

-- what is alike a text without a dot or a slash has none
plain_small : (c : ℕ) (s : List ℕ) → c < 0x41 → AllByRecursion (λ b. nat_eq b c ≡ false) s → AllByRecursion (λ b. nat_eq b c ≡ false) (map to_ascii_lowercase s)
plain_small c [] l h = tt
plain_small c (x ∷ s) l h = (go (nat_eq (to_ascii_lowercase x) c) refl, plain_small c s l h.1)
  where
    go : (v : Bool) → nat_eq (to_ascii_lowercase x) c ≡ v → nat_eq (to_ascii_lowercase x) c ≡ false
    go false f = f
    go true f =
        let same : x ≡ c = same_low c x l (eqb-true (to_ascii_lowercase x) c f) in
        let never : false ≡ true = sym h.0 ∙ eq-eqb x c same in cc

pub alike_plain : (c : ℕ) → c < 0x41 → (text other : List ℕ) → AreAlike text other → IsPlain c other → IsPlain c text
alike_plain c l text other e h =
    let small = plain_small c other l (recursion_from_All (λ b. nat_eq b c ≡ false) other h) in
    All-from_recursion (λ b. nat_eq b c ≡ false) text (plain_low c text l (subst (AllByRecursion (λ b. nat_eq b c ≡ false)) (sym e) small))

-- what is alike a text that is cut at a dot or a slash is cut there
pub record IsAlikeCut (c : ℕ) (text front back : List ℕ) : Type 0 where
  pub before : List ℕ
  pub after : List ℕ
  pub cut : IsCut c text before after
  pub before_is : AreAlike before front
  pub after_is : AreAlike after back

pub alike_cut : (c : ℕ) → c < 0x41 → (text other front back : List ℕ) → AreAlike text other → IsCut c other front back → IsAlikeCut c text front back
alike_cut c l text other front back e h =
    let small : map to_ascii_lowercase text ≡ map to_ascii_lowercase front ++ c ∷ map to_ascii_lowercase back =
    e ∙ ap (map to_ascii_lowercase) h ∙ map-append to_ascii_lowercase front (c ∷ back) ∙ ap (λ z. map to_ascii_lowercase front ++ z ∷ map to_ascii_lowercase back) (low_same c l) in
    let own = small_cut c l text (map to_ascii_lowercase front) (map to_ascii_lowercase back) small in
    record { before = own.before; after = own.after; cut = own.cut; before_is = own.before_is; after_is = own.after_is }

-- a letter that isn't quoted is compared as its small letter, or as it is
own_small : (l : Letter) → is_simple l ≡ true → own_byte true l ≡ to_ascii_lowercase l.byte
own_small l e = go l.quoted e
  where
    go : (q : Bool) → not q && matches_itself (kind_of l) ≡ true → cond q l.byte (to_ascii_lowercase l.byte) ≡ to_ascii_lowercase l.byte
    go false f = refl
    go true f = let never : false ≡ true = f in absurd cc

pub own_no_slash : (folds : Bool) (l : Letter) → is_simple l ≡ true → nat_eq (own_byte folds l) 0x2F ≡ false → nat_eq l.byte 0x2F ≡ false
own_no_slash false l e h = h
own_no_slash true l e h = not_low 0x2F l.byte (omega arith) (subst (λ z. nat_eq z 0x2F ≡ false) (own_small l e) h)
