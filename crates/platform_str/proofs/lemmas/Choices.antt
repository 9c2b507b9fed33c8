-- Which items of a block a mask chooses.
use Rattle.platform_str.proofs.Common.{◌≡◌, ◌*◌, ◌-◌, ◌++◌, ◌+◌, ◌/◌, ◌%◌, ◌<◌, ◌≤◌, ◌^◌, ℕ, zero, suc, List, [], ◌∷◌, length, length-append, take, drop, refl, sym, ap, ◌∙◌, subst, arith, append_assoc, nat_tests, drop-drop, length-take-le, flat_map, put_chunk, w16}
use Rattle.platform_str.specs.ToWide.{chosen}
use Rattle.std.proofs.{Common.⊎_elim, Math.Nat.pow-suc, Math.Nat.pow-le-pow_right}
use Rattle.std.proofs.lemmas.{Bool.cases_lt, Grind.common_steps, Simd.put_chunk_is, Slice.drop-append-drop}
use Rattle.std.specs.List.{range_with_len}
use borrow.Rule.Simd.Moves.{swz_l, SwzOk}
use borrow.Rule.Slice.PartMut.{mid_of}
use lib.{Count.ones, Count.ones_step, Count.ones-le, Lanes.chunk, Pow.field, Pow.mod-mod-pow}

-- where each mask has bits, and zeros after that
abbrev pub row : ℕ → List ℕ
row mask = take 4 (chosen (0 ∷ 1 ∷ 2 ∷ 3 ∷ []) mask ++ (0 ∷ 0 ∷ 0 ∷ 0 ∷ []))

abbrev pub row_at : ℕ → List ℕ
row_at mask = chunk 0 4 (mid_of (4 * mask) (64 - 4 * mask) (flat_map row (range_with_len 0 16)))

-- what holds of each number below another
abbrev Below : (ℕ → Type 0) → ℕ → Type 0
Below P zero = Unit {0}
Below P (suc n) = P n × Below P n

below : (P : ℕ → Type 0) (n m : ℕ) → Below P n → m < n → P m
below P zero m all h = absurd (omega (arith, h))
below P (suc n) m all h = ⊎_elim (λ l. below P n m all.1 l) (λ l. subst P (omega (arith, h, l)) all.0) (cases_lt m n)

abbrev Chooses : List ℕ → ℕ → Type 0
Chooses units mask = SwzOk w16 4 4 0 (row_at mask) × (take (length (chosen units mask)) (swz_l w16 4 units 0 (row_at mask)) ≡ chosen units mask)

pub row_chooses : (units : List ℕ) (mask : ℕ) → length units ≡ 4 → mask < 16 → Chooses units mask
row_chooses (a ∷ b ∷ c ∷ d ∷ []) mask l h =
    let fit : Unit {0} × (Unit {0} × (Unit {0} × (Unit {0} × Unit {0}))) = (tt, (tt, (tt, (tt, tt)))) in
    below (Chooses (a ∷ b ∷ c ∷ d ∷ [])) 16 mask ((fit, refl), ((fit, refl), ((fit, refl), ((fit, refl), ((fit, refl), ((fit, refl), ((fit, refl), ((fit, refl), ((fit, refl), ((fit, refl), ((fit, refl), ((fit, refl), ((fit, refl), ((fit, refl), ((fit, refl), ((fit, refl), tt)))))))))))))))) h
row_chooses units mask l h = absurd (omega (arith, l))

-- a mask has as many bits as it chooses items
pub ones_chosen : (xs : List ℕ) (mask : ℕ) → mask < 2 ^ length xs → ones mask ≡ length (chosen xs mask)
unfolding ones
ones_chosen [] mask h = let none : mask ≡ 0 = omega (arith, h) in ap ones none
ones_chosen (x ∷ xs) mask h = ones_step mask ∙ ap (λ n. mask % 2 + n) (ones_chosen xs (mask / 2) (omega (arith, h, pow-suc 2 (length xs)))) ∙ grind (arith, nat_tests)

-- it chooses of four items by four bits, and of those after them by the others
pub four_chosen : (xs : List ℕ) (mask : ℕ) → 4 ≤ length xs → chosen xs mask ≡ chosen (take 4 xs) (mask % 16) ++ chosen (drop 4 xs) (mask / 16)
four_chosen (a ∷ b ∷ c ∷ d ∷ xs) mask h =
    let first : mask % 16 % 2 ≡ mask % 2 = omega arith in
    let second : mask % 16 / 2 % 2 ≡ mask / 2 % 2 = omega arith in
    let third : mask % 16 / 2 / 2 % 2 ≡ mask / 2 / 2 % 2 = omega arith in
    let fourth : mask % 16 / 2 / 2 / 2 % 2 ≡ mask / 2 / 2 / 2 % 2 = omega arith in
    let others : mask / 2 / 2 / 2 / 2 ≡ mask / 16 = omega arith in
    rw (first, second, third, fourth, others) (grind (arith, common_steps))
four_chosen xs mask h = absurd (omega (arith, h))

-- no bit chooses nothing
pub none_chosen : (xs : List ℕ) → chosen xs 0 ≡ []
none_chosen [] = refl
none_chosen (x ∷ xs) = none_chosen xs

-- the lowest bits of a mask are its own
pub bit_kept : (mask n i : ℕ) → i < n → mask % 2 ^ n / 2 ^ i % 2 ≡ mask / 2 ^ i % 2
bit_kept mask n i h =
    let j = n - i - 1 in
    let e : n ≡ j + 1 + i = omega (arith, h) in
    ap (λ k. mask % 2 ^ k / 2 ^ i % 2) e ∙ ap (λ x. x % 2) (field mask (j + 1) i) ∙ mod-mod-pow (mask / 2 ^ i) j 1

-- a mask that is less than a power of two has few bits
pub few_bits : (mask count : ℕ) → count ≤ 16 → mask < 2 ^ count → (mask < 2 ^ 16) × (ones mask ≤ count)
few_bits mask count few h = (omega (arith, h, pow-le-pow_right {n = 2} (omega arith) few), ones-le count mask h)

-- what is after a store stays
pub drop_stored : (i k : ℕ) (xs ys : List ℕ) → i + length ys ≤ length xs → i + length ys ≤ k → drop k (put_chunk i xs ys) ≡ drop k xs
drop_stored i k xs ys room past =
    let n = length ys in
    let len = length-append (take i xs) ys in
    let whole = put_chunk_is i xs ys room ∙ ap (λ l. take i xs ++ (ys ++ l)) (drop-drop n i xs) ∙ sym (append_assoc (take i xs) ys (drop (i + n) xs)) in
    ap (drop k) whole ∙ drop-append-drop (i + n) xs (take i xs ++ ys) k past (omega (arith, len, length-take-le i xs (omega (arith, room))))
