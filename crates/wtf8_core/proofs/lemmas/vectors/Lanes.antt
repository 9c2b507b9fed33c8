-- The operations on vectors, lane by lane.
use Rattle.wtf8_core.proofs.Common.{common_steps, ◌≡◌, ⊎_elim, ℕ, zero, suc, ◌+◌, ◌-◌, ◌%◌, ◌^◌, ◌<◌, ◌≤◌, Bool, true, false, cond, ltb, List, [], ◌∷◌, ◌++◌, map, length, length-append, get_or, bit_or, replicate, not, refl, sym, ap, ◌∙◌, subst, arith, w8, Fits, eqb, eqb-true, length-map, length-replicate, get_or-map, get_or_append_left, range_with_len, not-true, not-false, cases_lt, nat_tests}
use Rattle.std.proofs.lemmas.{Simd.get_or-chunk, Simd.get_or-zip2, Simd.pick_l-range_with_len, Simd.get_or-replicate, Simd.tops_compared, Simd.zip2_splat, Simd.zip2_splat_left, Simd.length-sel_l, Simd.get_or-sel_l, Simd.mask_l-mod, Simd.bitmask_splat, Simd.trailing_mask_l, List.Sums.prefix_len_passes, Nat.trailing_le, Nat.le_or_l, Nat.le_or_r}
use Rattle.std.specs.Int.Count.{count_trailing_zeros}
use lib.Lanes.{zip2, pick_l, sel_l, mask_l, top, Each1}

-- an operator between a vector of n lanes and one value
pub lane_with : (f : ℕ → ℕ → ℕ) (xs : List ℕ) (n y : ℕ) → length xs ≡ n → (i : ℕ) → i < n → get_or (zip2 f xs (replicate n y)) i 0 ≡ f (get_or xs i 0) y
lane_with f xs n y p i h = get_or-zip2 f xs (replicate n y) i 0 0 0 (omega (arith, p, h)) (omega (arith, h, length-replicate n y)) ∙ ap (f (get_or xs i 0)) (get_or-replicate n i y 0 h)

-- the greater of two, less the second, is how far the first is above it
lifted : (a b : ℕ) → a < 256 → b < 256 → (cond (ltb a b) b a + (2 ^ 8 - b)) % 2 ^ 8 ≡ a - b
lifted a b l m = grind (arith, nat_tests)

-- the greater of a lane and one value
greater : (xs : List ℕ) (n y : ℕ) → length xs ≡ n → (i : ℕ) → i < n
    → get_or (sel_l (map (top 7) (zip2 (λ a b. cond (ltb a b) 255 0) xs (replicate n y))) (replicate n y) xs) i 0 ≡ cond (ltb (get_or xs i 0) y) y (get_or xs i 0)
greater xs n y p i h =
    let below : List Bool = map (λ x. ltb x y) xs in
    let many : length below ≡ n = length-map xs (λ x. ltb x y) ∙ p in
    rw (tops_compared w8 ltb xs (replicate n y), zip2_splat ltb xs n y p)
    (get_or-sel_l below (replicate n y) xs i 0 (omega (arith, many, h)) (omega (arith, h, length-replicate n y)) (omega (arith, p, h))
    ∙ rw (get_or-map (λ x. ltb x y) xs i 0 false (omega (arith, p, h)), get_or-replicate n i y 0 h) refl)

length-greater : (xs : List ℕ) (n y : ℕ) → length xs ≡ n → length (sel_l (map (top 7) (zip2 (λ a b. cond (ltb a b) 255 0) xs (replicate n y))) (replicate n y) xs) ≡ n
length-greater xs n y p = grind (arith, nat_tests, common_steps, length-map, tops_compared, zip2_splat, length-sel_l, length-replicate)

-- `saturating_sub` of one value
pub lane_above : (xs : List ℕ) (n y : ℕ) → length xs ≡ n → Each1 (Fits w8) xs → y < 256 → (i : ℕ) → i < n
    → get_or (zip2 (λ a b. (a + (2 ^ 8 - b)) % 2 ^ 8) (sel_l (map (top 7) (zip2 (λ a b. cond (ltb a b) 255 0) xs (replicate n y))) (replicate n y) xs) (replicate n y)) i 0 ≡ get_or xs i 0 - y
lane_above xs n y p fits u i h = grind (arith, nat_tests, common_steps, lane_with, length-greater, greater, lifted)

-- a mask with no bit set
pub none_set : (test : ℕ → Bool) (xs : List ℕ) → mask_l (map test xs) ≡ 0 → (i d : ℕ) → i < length xs → test (get_or xs i d) ≡ false
none_set test [] e i d h = absurd (omega (arith, h))
none_set test (x ∷ xs) e zero d h = grind (arith, nat_tests, common_steps)
none_set test (x ∷ xs) e (suc i) d h = none_set test xs (omega (arith, e)) i d (omega (arith, h))

none_passes : (t : ℕ → ℕ → Bool) (xs : List ℕ) (k y : ℕ) → k ≤ 64 → length xs ≡ k → eqb (mask_l (map (top 7) (zip2 (λ a b. cond (t a b) 255 0) xs (replicate k y))) % 2 ^ 64) 0 ≡ true
    → (i : ℕ) → i < k → t (get_or xs i 0) y ≡ false
none_passes t xs k y few p e i h = none_set (λ x. t x y) xs (sym (bitmask_splat w8 t xs k y p few) ∙ eqb-true _ _ e) i 0 (omega (arith, p, h))

-- both halves of 64 lanes, bit by bit
abbrev both_halves : List ℕ → List ℕ
both_halves xs = zip2 bit_or (pick_l 0 (xs ++ xs) (range_with_len 0 32)) (pick_l 0 (xs ++ xs) (range_with_len 32 32))

pub no_bit_of_both : (xs : List ℕ) → length xs ≡ 64 → eqb (mask_l (map (top 7) (zip2 (λ a b. cond (not (eqb a b)) 255 0) (both_halves xs) (replicate 32 0))) % 2 ^ 64) 0 ≡ true
    → (i : ℕ) → i < 64 → get_or xs i 0 ≡ 0
no_bit_of_both xs p e i h =
    ⊎_elim
    (λ l. let f : 0 + i ≡ i = omega arith in
    omega (arith, le_or_l (get_or xs (0 + i) 0) (get_or xs (32 + i) 0), none i l, ap (λ k. get_or xs k 0) f))
    (λ l. let f : 32 + (i - 32) ≡ i = omega (arith, l) in
    omega (arith, le_or_r (get_or xs (0 + (i - 32)) 0) (get_or xs (32 + (i - 32)) 0), none (i - 32) (omega (arith, h, l)), ap (λ k. get_or xs k 0) f))
    (cases_lt i 32)
  where
    in_half : (a j : ℕ) → a ≤ 32 → j < 32 → get_or (pick_l 0 (xs ++ xs) (range_with_len a 32)) j 0 ≡ get_or xs (a + j) 0
    in_half a j few l =
        ap (λ ys. get_or ys j 0) (pick_l-range_with_len 0 (xs ++ xs) a 32 (omega (arith, length-append xs xs, p, few)))
        ∙ get_or-chunk a 32 (xs ++ xs) j 0 l ∙ get_or_append_left xs xs 0 (a + j) (omega (arith, p, few, l))

    none : (j : ℕ) → j < 32 → bit_or (get_or xs (0 + j) 0) (get_or xs (32 + j) 0) ≡ 0
    none j l =
        ap (λ x. bit_or x (get_or xs (32 + j) 0)) (sym (in_half 0 j (omega arith) l))
        ∙ ap (bit_or (get_or (pick_l 0 (xs ++ xs) (range_with_len 0 32)) j 0)) (sym (in_half 32 j (omega arith) l))
        ∙ sym (get_or-zip2 bit_or (pick_l 0 (xs ++ xs) (range_with_len 0 32)) (pick_l 0 (xs ++ xs) (range_with_len 32 32)) j 0 0 0 l l)
        ∙ eqb-true _ _ (not-false _ (none_passes (λ a b. not (eqb a b)) (both_halves xs) 32 0 (omega arith) refl e j l))

-- before the first bit that is set no lane passes
none_before : (test : ℕ → Bool) (xs : List ℕ) → length xs ≤ 64 → (i : ℕ) → i < length xs → i < count_trailing_zeros 64 (mask_l (map test xs)) → test (get_or xs i 0) ≡ false
none_before test xs p i l h = grind (arith, nat_tests, common_steps, none_set, not-true, prefix_len_passes, trailing_mask_l)

pub none_passes_before : (t : ℕ → ℕ → Bool) (xs : List ℕ) (k y n : ℕ) → k ≤ 64 → length xs ≡ k → n ≡ count_trailing_zeros 64 (mask_l (map (top 7) (zip2 (λ a b. cond (t a b) 255 0) xs (replicate k y))) % 2 ^ 64)
    → (i : ℕ) → i < n → i < k → t (get_or xs i 0) y ≡ false
none_passes_before t xs k y n few p e i h l =
    none_before (λ x. t x y) xs (omega (arith, few, p)) i (omega (arith, p, l)) (subst (λ m. i < m) (e ∙ ap (count_trailing_zeros 64) (bitmask_splat w8 t xs k y p few)) h)

pub none_of_64_passes_before : (t : ℕ → ℕ → Bool) (xs : List ℕ) (y n : ℕ) → length xs ≡ 64 → n ≡ count_trailing_zeros 64 (mask_l (map (top 7) (zip2 (λ a b. cond (t a b) 255 0) xs (replicate 64 y))) % 2 ^ 64)
    → (i : ℕ) → i < n → t (get_or xs i 0) y ≡ false
none_of_64_passes_before t xs y n p e i h =
    none_passes_before t xs 64 y n (omega arith) p e i h (omega (arith, h, e, trailing_le 64 (mask_l (map (top 7) (zip2 (λ a b. cond (t a b) 255 0) xs (replicate 64 y))) % 2 ^ 64)))

-- the same of k lanes, with the value on the left
pub none_passes_left_before : (t : ℕ → ℕ → Bool) (xs : List ℕ) (k y n : ℕ) → k ≤ 64 → length xs ≡ k → n ≡ count_trailing_zeros 64 (mask_l (map (top 7) (zip2 (λ a b. cond (t a b) 255 0) (replicate k y) xs)) % 2 ^ 64)
    → (i : ℕ) → i < k → i < n → t y (get_or xs i 0) ≡ false
none_passes_left_before t xs k y n few p e i l h =
    none_before (t y) xs (omega (arith, few, p)) i (omega (arith, p, l)) (subst (λ m. i < m)
    (e ∙ ap (count_trailing_zeros 64) (rw (tops_compared w8 t (replicate k y) xs, zip2_splat_left t y k xs p) (mask_l-mod (map (t y) xs) 64 (omega (arith, length-map xs (t y), p, few))))) h)

-- lanes that are those of a list, one further on, after a zero
pub after_zero : (lanes xs ys : List ℕ) → ((i : ℕ) → i < 16 → get_or lanes i 0 ≡ get_or (0 ∷ xs) i 0) → ((i : ℕ) → i < 16 → get_or xs i 0 ≡ get_or ys i 0) → (i : ℕ) → i < 16 → get_or lanes i 0 ≡ get_or (0 ∷ ys) i 0
after_zero lanes xs ys is same zero h = is zero h
after_zero lanes xs ys is same (suc i) h = is (suc i) h ∙ same i (omega (arith, h))
