-- Vectors of 16 lanes, lane by lane.
use Rattle.std.proofs.Common.{◌≡◌, ℕ, ◌+◌, ◌*◌, ◌/◌, ◌%◌, ◌^◌, ◌≤◌, ◌<◌, Bool, false, cond, eqb, not, List, [], ◌∷◌, map, length, take, drop, get_or, replicate, sym, ap, ◌∙◌, arith}
use Rattle.platform_str.proofs.{Common.nat_tests, Common.common_steps, Common.mask_l, Common.zip2, Common.top, Common.length-map, lemmas.Choices.bit_kept}
use Rattle.std.proofs.lemmas.{List.get_or-map, List.get_or-take, Simd.length-chunk, Simd.get_or-chunk, Simd.get_or-zip2, Simd.get_or-replicate, Simd.length-replicate, Simd.length-zip2, Simd.tops_compared, Simd.length-sel_l, Simd.get_or-sel_l, Simd.bitmask_splat, Simd.bit_mask_l, Nat.one_shl}
use Rattle.platform_str.specs.Lanes.{HasLanes}
use lib.Lanes.{sel_l, Each1}
use mir.Syntax.{w16, w32}
use mir.Val.{Fits}

-- those of a list, from its first item on
pub from_first : {lanes : List ℕ} (xs : List ℕ) → HasLanes lanes (λ i. get_or xs (0 + i) 0) → HasLanes lanes (λ i. get_or xs i 0)
from_first {lanes} xs a = record { many = a.many; each = λ i h. let same : 0 + i ≡ i = omega arith in a.each i h ∙ ap (λ k. get_or xs k 0) same }

-- a load from a list, at an index
pub loaded : (at : ℕ) (xs : List ℕ) → at + 16 ≤ length xs → HasLanes (take 16 (drop at xs)) (λ i. get_or xs (at + i) 0)
loaded at xs h = record { many = length-chunk at 16 xs h; each = λ i l. get_or-chunk at 16 xs i 0 l }

pub loaded_first : (xs : List ℕ) → 16 ≤ length xs → HasLanes (take 16 xs) (λ i. get_or xs i 0)
loaded_first xs h = record { many = length-chunk 0 16 xs h; each = λ i l. get_or-take 16 xs i 0 l }

-- a cast to a wider type
pub widened : {xs : List ℕ} {f : ℕ → ℕ} → HasLanes xs f → HasLanes (map (λ x. x) xs) f
widened {xs} {f} a = record { many = length-map xs (λ x. x) ∙ a.many; each = λ i h. get_or-map (λ x. x) xs i 0 0 (omega (arith, a.many, h)) ∙ a.each i h }

-- a sum of 16 bits fits in 32
pub sums_fit : (xs ys : List ℕ) → Each1 (Fits w32) (zip2 (λ a b. (a + b) % 2 ^ 16) xs ys)
sums_fit [] ys = tt
sums_fit (x ∷ xs) [] = tt
sums_fit (x ∷ xs) (y ∷ ys) = (omega arith, sums_fit xs ys)

pub splat : (y : ℕ) → HasLanes (replicate 16 y) (λ _. y)
splat y = record { many = length-replicate 16 y; each = λ i h. get_or-replicate 16 i y 0 h }

pub both : (op : ℕ → ℕ → ℕ) {xs ys : List ℕ} {f g : ℕ → ℕ} → HasLanes xs f → HasLanes ys g → HasLanes (zip2 op xs ys) (λ i. op (f i) (g i))
both op {xs} {ys} {f} {g} a b = grind (arith, nat_tests, common_steps, length-zip2, get_or-zip2, a.many, b.many, a.each, b.each)

-- `select` by a comparison
pub choice : (test : ℕ → ℕ → Bool) {xs ys yes no : List ℕ} {f g p q : ℕ → ℕ} → HasLanes xs f → HasLanes ys g → HasLanes yes p → HasLanes no q
    → HasLanes (sel_l (map (top 15) (zip2 (λ a b. cond (test a b) 65535 0) xs ys)) yes no) (λ i. cond (test (f i) (g i)) (p i) (q i))
choice test {xs} {ys} {yes} {no} {f} {g} {p} {q} a b y n =
    let m : List Bool = zip2 test xs ys in
    let many : length m ≡ 16 = length-zip2 test xs ys (a.many ∙ sym b.many) ∙ a.many in
    rw (tops_compared w16 test xs ys) (record {
      many = length-sel_l m yes no (many ∙ sym y.many) (many ∙ sym n.many) ∙ many;
      each = λ i h.
          get_or-sel_l m yes no i 0 (omega (arith, many, h)) (omega (arith, y.many, h)) (omega (arith, n.many, h))
          ∙ ap (λ t. cond t (get_or yes i 0) (get_or no i 0)) (get_or-zip2 test xs ys i 0 0 false (omega (arith, a.many, h)) (omega (arith, b.many, h)) ∙ ap (λ x. test x (get_or ys i 0)) (a.each i h) ∙ ap (test (f i)) (b.each i h))
          ∙ ap (λ x. cond (test (f i) (g i)) x (get_or no i 0)) (y.each i h)
          ∙ ap (λ x. cond (test (f i) (g i)) (p i) x) (n.each i h);
    })

-- the lowest bits of a mask of the lanes that aren't 0
pub bit_of : {xs : List ℕ} {f : ℕ → ℕ} → HasLanes xs f → (count i : ℕ) → count ≤ 16 → i < count
    → mask_l (map (top 15) (zip2 (λ a b. cond (not (eqb a b)) 65535 0) xs (replicate 16 0))) % 2 ^ 64 % (1 * 2 ^ count % 2 ^ 64) / 2 ^ i % 2 ≡ cond (not (eqb (f i) 0)) 1 0
bit_of {xs} {f} a count i few h =
    let test : ℕ → Bool = λ x. not (eqb x 0) in
    let ms = map test xs in
    ap (λ k. mask_l (map (top 15) (zip2 (λ a b. cond (not (eqb a b)) 65535 0) xs (replicate 16 0))) % 2 ^ 64 % k / 2 ^ i % 2) (one_shl count 64 (omega (arith, few)))
    ∙ ap (λ m. m % 2 ^ count / 2 ^ i % 2) (bitmask_splat w16 (λ x y. not (eqb x y)) xs 16 0 a.many (omega arith))
    ∙ bit_kept (mask_l ms) count i h ∙ bit_mask_l ms i
    ∙ ap (λ b. cond b 1 0) (get_or-map test xs i 0 false (omega (arith, a.many, few, h)) ∙ ap test (a.each i (omega (arith, few, h))))
