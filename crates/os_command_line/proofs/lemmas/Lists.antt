-- Lists, and elements that all have a property.
use Rattle.std.proofs.Common.{◌≡◌, ℕ, zero, suc, ◌<◌, arith, slice_index, List, [], ◌∷◌, ◌++◌, refl, ap, ◌∙◌}
use Rattle.std.specs.List.{AllByRecursion, flat_map}
use Rattle.std.specs.Str.{IsUtf8}
use Rattle.std.proofs.lemmas.Str.{IsUtf8-from_ascii}

pub no_cons : {x : ℕ} {xs : List ℕ} → x ∷ xs ≡ [] → ⊥
no_cons e = cc

module _ {A : Type 0} (P : A → Type 0) where
  pub all_joined : (xs ys : List A) → AllByRecursion P xs → AllByRecursion P ys → AllByRecursion P (xs ++ ys)
  all_joined [] ys h k = k
  all_joined (x ∷ xs) ys h k = (h.0, all_joined xs ys h.1 k)

  pub one_more : (xs : List A) (x : A) → AllByRecursion P xs → P x → AllByRecursion P (xs ++ x ∷ [])
  one_more xs x h k = all_joined xs (x ∷ []) h (k, tt)

  pub both_parts : (xs ys : List A) → AllByRecursion P (xs ++ ys) → AllByRecursion P xs × AllByRecursion P ys
  both_parts [] ys h = (tt, h)
  both_parts (x ∷ xs) ys h = let parts = both_parts xs ys h.1 in ((h.0, parts.0), parts.1)

-- elements that are written as themselves
pub all_themselves : (f : ℕ → List ℕ) (xs : List ℕ) → AllByRecursion (λ x. f x ≡ x ∷ []) xs → flat_map f xs ≡ xs
all_themselves f [] h = refl
all_themselves f (x ∷ xs) h = ap (λ z. z ++ flat_map f xs) h.0 ∙ ap (λ z. x ∷ z) (all_themselves f xs h.1)

ascii_at : (bytes : List ℕ) → AllByRecursion (λ b. b < 0x80) bytes → (i : ℕ) → slice_index bytes i < 128
ascii_at [] h i = omega arith
ascii_at (b ∷ bytes) h zero = h.0
ascii_at (b ∷ bytes) h (suc i) = ascii_at bytes h.1 i

-- ASCII bytes are text
pub ascii_text : (bytes : List ℕ) → AllByRecursion (λ b. b < 0x80) bytes → IsUtf8 bytes
ascii_text bytes h = IsUtf8-from_ascii bytes (ascii_at bytes h)
