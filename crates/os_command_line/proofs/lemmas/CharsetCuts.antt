-- The characters of a text are divided at each byte that is part of no longer one.
use Rattle.std.proofs.Common.{◌≡◌, ℕ, ◌<◌, ◌≤◌, true, false, List, [], ◌∷◌, ◌++◌, refl, sym, ap, ◌∙◌, subst, arith, inl, inr, ◌⊎◌}
use Rattle.std.specs.List.{AllByRecursion}
use Rattle.std.proofs.lemmas.Bool.{true≢false}
use Rattle.os_command_line.specs.Charset.{is_kept, MayFollow, IsCharacter, joined, AreCharacters}
use Rattle.os_command_line.specs.Charset.IsCharacter.{byte, longer}

-- the last byte of these after this one
abbrev pub last : ℕ → List ℕ → ℕ
last before [] = before
last before (b ∷ bs) = last b bs

pub last_joined : (before : ℕ) (done bytes : List ℕ) → last before (done ++ bytes) ≡ last (last before done) bytes
last_joined before [] bytes = refl
last_joined before (x ∷ done) bytes = last_joined x done bytes

-- after this byte, that one begins a character
abbrev pub Begins : ℕ → ℕ → Type 0
Begins before k = (k < 0x80) × ((is_kept k ≡ true) ⊎ (before < 0x80))

-- the bytes of a character that ends before `k` are first in `a`
record Peeled (bytes text a : List ℕ) (k : ℕ) (b : List ℕ) : Type 0 where
  more : List ℕ
  before : ℕ
  first : a ≡ bytes ++ more
  then : text ≡ more ++ k ∷ b
  begins : Begins (last before more) k

not_in : (before k : ℕ) → is_kept k ≡ false → (k < 0x80 → 0x80 ≤ before) → Begins before k → ⊥
not_in before k n f h = elim h.1 [ inl t ↦ true≢false (sym t ∙ n) | inr lt ↦ let g : 0x80 ≤ before = f h.0 in omega (arith, lt, g) ]

peel : (bytes text a : List ℕ) (before k : ℕ) (b : List ℕ) → MayFollow before bytes → bytes ++ text ≡ a ++ k ∷ b → Begins (last before a) k → Peeled bytes text a k b
peel [] text a before k b m e h = record { more = a; before = before; first = refl; then = e; begins = h }
peel (x ∷ bytes) text [] before k b m e h =
    let f : x ≡ k = cc in
    absurd (not_in before k (subst (λ z. is_kept z ≡ false) f m.0) (subst (λ z. z < 0x80 → 0x80 ≤ before) f m.1) h)
peel (x ∷ bytes) text (y ∷ a) before k b m e h =
    let f : x ≡ y = cc in
    let g : bytes ++ text ≡ a ++ k ∷ b = cc in
    let p = peel bytes text a x k b m.2 g (subst (λ z. Begins (last z a) k) (sym f) h) in
    let i : a ≡ bytes ++ p.more = p.first in
    record { more = p.more; before = p.before; first = cc; then = p.then; begins = p.begins }

-- the characters before a byte that is one, and after it
pub record Parts (cs : List (List ℕ)) (a : List ℕ) (k : ℕ) (b : List ℕ) : Type 0 where
  pub first : List (List ℕ)
  pub rest : List (List ℕ)
  pub parts : cs ≡ first ++ (k ∷ []) ∷ rest
  pub first_are : AreCharacters a first
  pub rest_are : AreCharacters b rest

-- one more character before them
one_more : (c : List ℕ) (cs : List (List ℕ)) (a : List ℕ) (k : ℕ) (b : List ℕ) → IsCharacter c → Parts cs a k b → Parts (c ∷ cs) (c ++ a) k b
one_more c cs a k b i p = record {
  first = c ∷ p.first;
  rest = p.rest;
  parts = ap (λ z. c ∷ z) p.parts;
  first_are = record { is_joined = ap (λ z. c ++ z) p.first_are.is_joined; are_characters = (i, p.first_are.are_characters) };
  rest_are = p.rest_are;
}

-- characters are divided at each byte that begins one
abbrev Splits : List (List ℕ) → Type 0
Splits cs = (a : List ℕ) (before k : ℕ) (b : List ℕ) → joined cs ≡ a ++ k ∷ b → Begins (last before a) k → Parts cs a k b

at_first : (c : List ℕ) (cs : List (List ℕ)) → IsCharacter c → AllByRecursion IsCharacter cs → Splits cs → Splits (c ∷ cs)
at_first _ cs (byte x) i s [] before k b e h =
    let f : x ≡ k = cc in
    let g : joined cs ≡ b = cc in
    record { first = []; rest = cs; parts = ap (λ z. (z ∷ []) ∷ cs) f; first_are = record { is_joined = refl; are_characters = tt }; rest_are = record { is_joined = g; are_characters = i } }
at_first _ cs (byte x) i s (y ∷ a) before k b e h =
    let f : x ≡ y = cc in
    let g : joined cs ≡ a ++ k ∷ b = cc in
    subst (λ z. Parts ((x ∷ []) ∷ cs) (z ∷ a) k b) f (one_more (x ∷ []) cs a k b (byte x) (s a y k b g h))
at_first _ cs (longer x bytes high m) i s [] before k b e h =
    let f : x ≡ k = cc in
    let lt : k < 0x80 = h.0 in
    absurd (omega (arith, f, lt, high))
at_first _ cs (longer x bytes high m) i s (y ∷ a) before k b e h =
    let f : x ≡ y = cc in
    let g : bytes ++ joined cs ≡ a ++ k ∷ b = cc in
    let p = peel bytes (joined cs) a x k b m g (subst (λ z. Begins (last z a) k) (sym f) h) in
    let q = s p.more p.before k b p.then p.begins in
    let t : a ≡ bytes ++ p.more = p.first in
    let j : x ∷ (bytes ++ p.more) ≡ y ∷ a = cc in
    subst (λ z. Parts ((x ∷ bytes) ∷ cs) z k b) j (one_more (x ∷ bytes) cs p.more k b (longer x bytes high m) q)

none_split : Splits []
none_split [] before k b e h = cc
none_split (x ∷ a) before k b e h = cc

pub split : (cs : List (List ℕ)) → AllByRecursion IsCharacter cs → Splits cs
split [] i = none_split
split (c ∷ cs) i = at_first c cs i.0 i.1 (split cs i.1)
