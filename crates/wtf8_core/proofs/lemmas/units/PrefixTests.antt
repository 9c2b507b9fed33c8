-- std's tests of prefixes and suffixes, as lists joined.
use Rattle.wtf8_core.proofs.Common.{◌≡◌, ℕ, ◌+◌, ◌-◌, Bool, true, false, List, ◌++◌, length, take, drop, Bor, Some, None, eqb, Decides-eqb, IsTrue, pointwise, MatchOption, IsPrefix, IsSuffix}
use Rattle.std.proofs.lemmas.Slice.Eq.{starts_is, ends_is, strip_prefix_is, strip_suffix_is}

-- a test that never holds
pub never : (P : Type 0) → (P → ⊥) → (IsTrue false → P) × (P → IsTrue false)
never P n = (λ t. absurd (not t), λ p. absurd (n p))
  where
    not : IsTrue false → ⊥
    not t = cc

-- std's prefixes and suffixes of slices, as lists joined
pub stripped_prefix : (s p : List ℕ) (rest : Bor (List ℕ)) → MatchOption (Some rest) (pointwise eqb (take (length p) s) p ≡ false) (λ x. (pointwise eqb (take (length p) s) p ≡ true) × (x.now ≡ drop (length p) s) × (length x.now + length p ≡ length s)) → s ≡ p ++ rest.now
stripped_prefix s p rest h = strip_prefix_is {E = eqb} Decides-eqb s p (Some rest) h

pub not_stripped_prefix : (s p : List ℕ) → pointwise eqb (take (length p) s) p ≡ false → IsPrefix p s → ⊥
not_stripped_prefix s p h f = strip_prefix_is {E = eqb} Decides-eqb s p None h f.rest f.joined

pub stripped_suffix : (s p : List ℕ) (rest : Bor (List ℕ)) → MatchOption (Some rest) (pointwise eqb (drop (length s - length p) s) p ≡ false) (λ x. (pointwise eqb (drop (length s - length p) s) p ≡ true) × (x.now ≡ take (length s - length p) s) × (length x.now + length p ≡ length s)) → s ≡ rest.now ++ p
stripped_suffix s p rest h = strip_suffix_is {E = eqb} Decides-eqb s p (Some rest) h

pub not_stripped_suffix : (s p : List ℕ) → pointwise eqb (drop (length s - length p) s) p ≡ false → IsSuffix p s → ⊥
not_stripped_suffix s p h f = strip_suffix_is {E = eqb} Decides-eqb s p None h f.rest f.joined

pub prefix_tested : (s p : List ℕ) (r : Bool) → r ≡ pointwise eqb p (take (length p) s) → (IsTrue r → IsPrefix p s) × (IsPrefix p s → IsTrue r)
prefix_tested s p r h = let w = starts_is {E = eqb} Decides-eqb s p r h in (λ t. record { rest = drop (length p) s; joined = w.0 t }, λ f. w.1 f.rest f.joined)

pub end_tested : (s p : List ℕ) (r : Bool) → r ≡ pointwise eqb p (drop (length s - length p) s) → (IsTrue r → IsSuffix p s) × (IsSuffix p s → IsTrue r)
end_tested s p r h = let w = ends_is {E = eqb} Decides-eqb s p r h in (λ t. record { rest = take (length s - length p) s; joined = w.0 t }, λ f. w.1 f.rest f.joined)
