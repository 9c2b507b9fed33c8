-- Lists of numbers, sorted and each kept once.
use Rattle.std.proofs.Common.{◌≡◌, ◌↔◌, ◌⊎◌, inl, inr, ◌<◌, ◌≤◌, ℕ, zero, suc, List, [], ◌∷◌, ◌++◌, length, eqb, refl, sym, subst, arith}
use Rattle.std.specs.List.{AllByRecursion, AllPairs, Contains, dedup}
use Rattle.std.specs.List.Sorted.{IsPermutation, IsSorted}
use Rattle.std.specs.Ordering.{nat_cmp}
use Rattle.std.specs.Prelude.{slice_index_or}
use Rattle.std.proofs.lemmas.Bool.{cases_lt}
use Rattle.std.proofs.lemmas.List.Kept.{AllPairs-from_increasing, Contains-dedup_nat, Contains-from_dedup}
use Rattle.std.proofs.lemmas.List.Sorted.{Contains-permutation, IsPermutation-sym}
use Rattle.std.proofs.lemmas.Map.Keys.{IsStrictlyIncreasing-dedup}
use Rattle.wildcards.specs.declared.options.Options.{Options}
use Rattle.wildcards.specs.declared.set.Pattern.{Pattern}
use Rattle.wildcards.specs.Sets.{Has, Ascends, AreFound, AreHits}

-- equal or not
same_or_not : (i j : ℕ) → (i ≡ j) ⊎ (i ≡ j → ⊥)
same_or_not i j = by_size (cases_lt i j) (cases_lt j i)
  where
    by_size : (i < j) ⊎ (j ≤ i) → (j < i) ⊎ (i ≤ j) → (i ≡ j) ⊎ (i ≡ j → ⊥)
    by_size (inl l) k = inr (λ e. absurd (omega (arith, l, e)))
    by_size (inr g) (inl l) = inr (λ e. absurd (omega (arith, l, e)))
    by_size (inr g) (inr h) = inl (omega (arith, g, h))

pub has_or_not : (xs : List ℕ) (i : ℕ) → Has xs i ⊎ (Has xs i → ⊥)
has_or_not [] i = inr (λ h. h)
has_or_not (x ∷ xs) i = onto (same_or_not i x) (has_or_not xs i)
  where
    onto : (i ≡ x) ⊎ (i ≡ x → ⊥) → Has xs i ⊎ (Has xs i → ⊥) → Has (x ∷ xs) i ⊎ (Has (x ∷ xs) i → ⊥)
    onto (inl e) h = inl (inl e)
    onto (inr n) (inl h) = inl (inr h)
    onto (inr n) (inr m) = inr neither
      where
        neither : Has (x ∷ xs) i → ⊥
        neither (inl e) = n e
        neither (inr h) = m h

module _ {X : Type 0} where
  pub has_more : (xs : List X) (x i : X) → Has xs i → Has (xs ++ x ∷ []) i
  has_more [] x i h = absurd h
  has_more (y ∷ xs) x i (inl e) = inl e
  has_more (y ∷ xs) x i (inr h) = inr (has_more xs x i h)

  pub has_pushed : (xs : List X) (x : X) → Has (xs ++ x ∷ []) x
  has_pushed [] x = inl refl
  has_pushed (y ∷ xs) x = inr (has_pushed xs x)

  pub has_either : (xs : List X) (x i : X) → Has (xs ++ x ∷ []) i → Has xs i ⊎ (i ≡ x)
  has_either [] x i (inl e) = inr e
  has_either [] x i (inr h) = absurd h
  has_either (y ∷ xs) x i (inl e) = inl (inl e)
  has_either (y ∷ xs) x i (inr h) = onto (has_either xs x i h)
    where
      onto : Has xs i ⊎ (i ≡ x) → Has (y ∷ xs) i ⊎ (i ≡ x)
      onto (inl k) = inl (inr k)
      onto (inr k) = inr k

  has_contains : (xs : List X) (i : X) → Has xs i → Contains xs i
  has_contains [] i h = absurd h
  has_contains (x ∷ xs) i (inl e) = (0, omega arith, sym e)
  has_contains (x ∷ xs) i (inr h) = let c = has_contains xs i h in let l = c.1 in (suc c.0, omega (arith, l), c.2)

  at_has : (xs : List X) (i : X) (k : ℕ) → k < length xs → slice_index_or xs k i ≡ i → Has xs i
  at_has [] i k l e = absurd (omega (arith, l))
  at_has (x ∷ xs) i zero l e = inl (sym e)
  at_has (x ∷ xs) i (suc k) l e = inr (at_has xs i k (omega (arith, l)) e)

  contains_has : (xs : List X) (i : X) → Contains xs i → Has xs i
  contains_has xs i c = at_has xs i c.0 c.1 c.2

all_at : (P : ℕ → Type 0) (xs : List ℕ) → ((k d : ℕ) → k < length xs → P (slice_index_or xs k d)) → AllByRecursion P xs
all_at P [] h = tt
all_at P (x ∷ xs) h = (h 0 x (omega arith), all_at P xs (λ k d l. h (suc k) d (omega (arith, l))))

pairs_ascend : (xs : List ℕ) → AllPairs (λ x y. x < y) xs → Ascends xs
pairs_ascend [] h = tt
pairs_ascend (x ∷ xs) h = (
  all_at (λ y. x < y) xs (λ k d l. h 0 (suc k) d (omega arith) (omega (arith, l))),
  pairs_ascend xs (λ i j d l k. h (suc i) (suc j) d (omega (arith, l)) (omega (arith, k))),
)

-- sorted, and each kept once
pub sorted_has : (found sorted : List ℕ) → IsPermutation found sorted → (i : ℕ) → Has found i ↔ Has (dedup eqb sorted) i
sorted_has found sorted p i = (
  λ h. contains_has (dedup eqb sorted) i (Contains-dedup_nat sorted i (Contains-permutation found sorted i p (has_contains found i h))),
  λ h. contains_has found i (Contains-permutation sorted found i (IsPermutation-sym found sorted p) (Contains-from_dedup eqb sorted i (has_contains (dedup eqb sorted) i h))),
)

pub sorted_ascends : (sorted : List ℕ) → IsSorted nat_cmp sorted → Ascends (dedup eqb sorted)
sorted_ascends sorted s = pairs_ascend (dedup eqb sorted) (AllPairs-from_increasing (dedup eqb sorted) (IsStrictlyIncreasing-dedup sorted s))

-- a number below the first of those that ascend
pub ascends_one : (all left rest : List ℕ) (x : ℕ) → left ≡ x ∷ rest → ((y : ℕ) (ys : List ℕ) → rest ≡ y ∷ ys → x < y) → (Ascends left → Ascends all) → Ascends rest → Ascends all
ascends_one all left [] x e below h up = h (subst Ascends (sym e) (tt, tt))
ascends_one all left (y ∷ ys) x e below h up = h (subst Ascends (sym e) ((l, lower ys up.0), up))
  where
    l : x < y
    l = below y ys refl

    lower : (zs : List ℕ) → AllByRecursion (λ z. y < z) zs → AllByRecursion (λ z. x < z) zs
    lower [] k = tt
    lower (z ∷ zs) k = let m = k.0 in (omega (arith, l, m), lower zs k.1)

-- what is found, in order
pub in_order : {A : Type 0} (o : Options) (patterns : List (Pattern A)) (path found ordered : List ℕ) → ((i : ℕ) → Has found i ↔ Has ordered i) → Ascends ordered → AreFound o patterns path found → AreHits o patterns path ordered
in_order o patterns path found ordered same up f = record {
  sound = λ i h. f.sound i ((same i).1 h);
  complete = λ i hit. (same i).0 (f.complete i hit);
  ascends = up;
}
