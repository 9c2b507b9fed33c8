-- What a test of all lanes says of each lane.
use Rattle.std.proofs.Common.{◌≡◌, ℕ, ◌+◌, ◌*◌, ◌/◌, ◌-◌, ◌%◌, ◌^◌, ◌≤◌, ◌<◌, true, cond, eqb, leb, List, map, length, replicate, take, ◌++◌, refl, sym, ap, ◌∙◌, arith, eqb-true, leb-false}
use Rattle.platform_str.proofs.Common.{take-append-add, length-map, length-take-le, take-take, All, count_by, zip2, mask_l, top, put_chunk}
use Rattle.std.proofs.lemmas.Simd.{tops_compared, zip2_splat_left, mask_l-mod, bitmask_splat, ones-mask_l, take_more_put_chunk}
use Rattle.std.specs.Int.RustNames.{count_ones}
use Rattle.wtf8_core.proofs.lemmas.vectors.Lanes.{none_set}
use mir.Syntax.{Width, w16}
use mir.Val.{bits, hbits}

-- if no bit of the comparison is set, no lane is y or more
pub all_below_splat : (w : Width) (y n : ℕ) (xs : List ℕ) → length xs ≡ n → n ≤ 64 → eqb (mask_l (map (top (hbits w)) (zip2 (λ a b. cond (leb a b) (2 ^ bits w - 1) 0) (replicate n y) xs)) % 2 ^ 64) 0 ≡ true
    → All (λ x. x < y) xs
all_below_splat w y n xs p l e i d h =
    leb-false _ _ (none_set (leb y) xs (sym (mask_l-mod (map (leb y) xs) 64 (omega (arith, length-map xs (leb y), p)))
    ∙ rw (tops_compared w leb (replicate n y) xs, zip2_splat_left leb y n xs p) at (eqb-true _ _ e)) i d h)

-- how many lanes are y or more
pub count_from_splat : (w : Width) (y n : ℕ) (xs : List ℕ) → length xs ≡ n → n ≤ 64 → count_ones (mask_l (map (top (hbits w)) (zip2 (λ a b. cond (leb a b) (2 ^ bits w - 1) 0) (replicate n y) xs)) % 2 ^ 64) ≡ count_by (leb y) xs
count_from_splat w y n xs p l =
    let m : mask_l (map (leb y) xs) % 2 ^ 64 ≡ mask_l (map (leb y) xs) = mask_l-mod (map (leb y) xs) 64 (omega (arith, length-map xs (leb y), p)) in
    rw (tops_compared w leb (replicate n y) xs, zip2_splat_left leb y n xs p) (ap count_ones m ∙ ones-mask_l (leb y) xs)

-- the high six bits of a unit and those of the one after it, as one number of twelve bits
abbrev pub six_and_six : ℕ → ℕ → ℕ
six_and_six u v = ((u / 2 ^ 10) * 2 ^ 6 % 2 ^ 16 + v / 2 ^ 10) % 2 ^ 16

-- these of two lists, as vectors compute them
abbrev pub sixes : ℕ → List ℕ → List ℕ → List ℕ
sixes n us vs = zip2 (λ a b. (a + b) % 2 ^ 16) (zip2 (λ a b. a * 2 ^ b % 2 ^ 16) (zip2 (λ a b. a / 2 ^ b) us (replicate n 10)) (replicate n 6)) (zip2 (λ a b. a / 2 ^ b) vs (replicate n 10))

-- how many lanes equal y
pub count_is_splat : (n y : ℕ) (xs : List ℕ) → length xs ≡ n → n ≤ 64 → count_ones (mask_l (map (top 15) (zip2 (λ a b. cond (eqb a b) (2 ^ 16 - 1) 0) xs (replicate n y))) % 2 ^ 64) ≡ count_by (λ x. eqb x y) xs
count_is_splat n y xs p l = ap count_ones (bitmask_splat w16 eqb xs n y p l) ∙ ones-mask_l (λ x. eqb x y) xs

-- the first lanes of a vector that was stored
pub take_prefix_put_chunk : (i n : ℕ) (xs ys : List ℕ) → i + length ys ≤ length xs → n ≤ length ys → take (i + n) (put_chunk i xs ys) ≡ take i xs ++ take n ys
take_prefix_put_chunk i n xs ys h k =
    sym (take-take (i + n) (i + length ys) (put_chunk i xs ys) (omega (arith, k)))
    ∙ ap (take (i + n)) (take_more_put_chunk i xs ys (i + length ys) refl h)
    ∙ ap (λ j. take (j + n) (take i xs ++ ys)) (sym (length-take-le i xs (omega (arith, h))))
    ∙ take-append-add (take i xs) ys n
