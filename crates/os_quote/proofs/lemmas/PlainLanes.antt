-- The lanes that tell which bytes are plain.
use Rattle.os_quote.proofs.Common.{◌≡◌, ℕ, ◌+◌, ◌-◌, ◌%◌, ◌<◌, false, cond, List, map, length, get_or, replicate, refl, ◌∙◌, arith, nat_tests, w8, eqb, length-map, IsPlain}
use Rattle.std.proofs.Common.{bit_or}
use Rattle.std.proofs.lemmas.{List.get_or-map, List.length-replicate, Nat.le_or_l, Nat.le_or_r, Simd.get_or-sel_l, Simd.get_or-replicate, Simd.tops_compared, Simd.zip2_splat}
use lib.Lanes.{zip2, sel_l, top}

-- one value where a lane is another, and else a third
pub chosen : (xs : List ℕ) (n y a b : ℕ) → length xs ≡ n → (i : ℕ) → i < n
    → get_or (sel_l (map (top 7) (zip2 (λ a b. cond (eqb a b) 255 0) xs (replicate n y))) (replicate n a) (replicate n b)) i 0 ≡ cond (eqb (get_or xs i 0) y) a b
chosen xs n y a b p i h =
    rw (tops_compared w8 eqb xs (replicate n y), zip2_splat eqb xs n y p)
    (get_or-sel_l (map (λ x. eqb x y) xs) (replicate n a) (replicate n b) i 0 (omega (arith, h, p, length-map xs (λ x. eqb x y))) (omega (arith, h, length-replicate n a)) (omega (arith, h, length-replicate n b))
    ∙ rw (get_or-map (λ x. eqb x y) xs i 0 false (omega (arith, p, h)), get_or-replicate n i a 0 h, get_or-replicate n i b 0 h) refl)

-- a byte that isn't below a space or above a tilde, and is no backslash
pub plain_lane : (x away slash both : ℕ) → x < 256 → away ≡ (x + 224) % 256 - 0x5E → slash ≡ cond (eqb x 0x5C) 255 0 → both ≡ bit_or away slash → both ≡ 0 → IsPlain x
plain_lane x away slash both fits e f g none =
    let left = le_or_l away slash in
    let right = le_or_r away slash in
    ((omega arith, omega arith), λ same. grind (arith, nat_tests))
