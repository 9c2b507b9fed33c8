-- The lanes of a vector before the first that is a certain byte, and those of two that are alike.
use Rattle.std.proofs.Common.{◌≡◌, ◌<◌, ◌≤◌, ◌%◌, ◌^◌, ℕ, Bool, true, false, cond, List, length, get_or, map, replicate, not, eqb, eqb-true, sym, ap, ◌∙◌, subst, arith, w8}
use Rattle.std.proofs.lemmas.Bool.{not-true, not-false}
use Rattle.std.proofs.lemmas.List.{map-id}
use Rattle.std.proofs.lemmas.Simd.{bitmask_splat, trailing_mask_l, leading_from_mask_l, tops_compared, mask_l-mod, length-zip2, get_or-zip2}
use Rattle.std.proofs.lemmas.List.Sums.{prefix_len_passes, prefix_len-le-length}
use Rattle.std.specs.Int.Count.{count_trailing_zeros}
use Rattle.std.specs.List.{prefix_len}
use lib.Lanes.{zip2, mask_l, top}

module _ (xs : List ℕ) (y n : ℕ) (p : length xs ≡ n) (few : n ≤ 64) where
  abbrev mask : ℕ
  mask = mask_l (map (top 7) (zip2 (λ a b. cond (eqb a b) 255 0) xs (replicate n y))) % 2 ^ 64

  -- the lanes before the first that is y
  abbrev before : ℕ
  before = prefix_len (λ x. not (eqb x y)) xs

  same_mask : mask ≡ mask_l (map (λ x. eqb x y) xs)
  same_mask = bitmask_splat w8 eqb xs n y p few

  pub all_before : mask ≡ 0 → n ≡ before
  all_before e = sym (leading_from_mask_l (λ x. eqb x y) xs (sym same_mask ∙ e) ∙ p)

  pub some_before : (mask ≡ 0 → ⊥) → count_trailing_zeros 64 mask ≡ before
  some_before e = ap (count_trailing_zeros 64) same_mask ∙ trailing_mask_l (λ x. eqb x y) 64 xs (omega (arith, p, few)) (omega (arith, e, same_mask))

  pub few_before : (m : ℕ) → m ≡ before → m ≤ n
  few_before m e = omega (arith, e, p, prefix_len-le-length (λ x. not (eqb x y)) xs)

  pub none_before : (m : ℕ) → m ≡ before → (i : ℕ) → i < m → eqb (get_or xs i 0) y ≡ false
  none_before m e i h = not-true _ (prefix_len_passes (λ x. not (eqb x y)) xs i 0 (subst (λ k. i < k) e h))

module _ (xs ys : List ℕ) (n : ℕ) (p : length xs ≡ n) (q : length ys ≡ n) (few : n ≤ 64) where
  abbrev differ : List Bool
  differ = zip2 (λ a b. not (eqb a b)) xs ys

  abbrev differ_mask : ℕ
  differ_mask = mask_l (map (top 7) (zip2 (λ a b. cond (not (eqb a b)) 255 0) xs ys)) % 2 ^ 64

  -- the lanes before the first that differ
  abbrev alike : ℕ
  alike = prefix_len (λ d. not d) differ

  long : length differ ≡ n
  long = length-zip2 (λ a b. not (eqb a b)) xs ys (p ∙ sym q) ∙ p

  same_bits : differ_mask ≡ mask_l (map (λ d. d) differ)
  same_bits =
      ap (λ ms. mask_l ms % 2 ^ 64) (tops_compared w8 (λ a b. not (eqb a b)) xs ys)
      ∙ mask_l-mod differ 64 (omega (arith, long, few)) ∙ ap mask_l (sym (map-id differ))

  pub all_alike : differ_mask ≡ 0 → n ≡ alike
  all_alike e = sym (leading_from_mask_l (λ d. d) differ (sym same_bits ∙ e) ∙ long)

  pub some_alike : (differ_mask ≡ 0 → ⊥) → count_trailing_zeros 64 differ_mask ≡ alike
  some_alike e = ap (count_trailing_zeros 64) same_bits ∙ trailing_mask_l (λ d. d) 64 differ (omega (arith, long, few)) (omega (arith, e, same_bits))

  pub few_alike : (m : ℕ) → m ≡ alike → m ≤ n
  few_alike m e = omega (arith, e, long, prefix_len-le-length (λ d. not d) differ)

  pub each_alike : (m : ℕ) → m ≡ alike → (i : ℕ) → i < m → get_or xs i 0 ≡ get_or ys i 0
  each_alike m e i h =
      let below : i < n = let l = few_alike m e in omega arith in
      let equal : not (not (eqb (get_or xs i 0) (get_or ys i 0))) ≡ true =
      ap not (sym (get_or-zip2 (λ a b. not (eqb a b)) xs ys i 0 0 false (omega (arith, p, below)) (omega (arith, q, below)))) ∙ prefix_len_passes (λ d. not d) differ i false (subst (λ k. i < k) e h) in
      eqb-true _ _ (not-false _ (not-true _ equal))
