-- Tests of all numbers below a bound, by computing them.
use Rattle.wtf8_core.proofs.Common.{◌≡◌, inl, inr, ℕ, zero, suc, ◌+◌, ◌-◌, ◌*◌, ◌/◌, ◌<◌, ◌≤◌, Bool, true, ◌&&◌, not, eqb, List, get_or, sym, subst, arith, eqb-true, true≢false, and_parts, cases_lt}

-- whether each number below n passes
abbrev pub all_below : (ℕ → Bool) → ℕ → Bool
all_below test zero = true
all_below test (suc n) = test n && all_below test n

pub each_below : (test : ℕ → Bool) (n k : ℕ) → all_below test n ≡ true → k < n → test k ≡ true
each_below test zero k h l = absurd (omega arith)
each_below test (suc n) k h l =
    elim (cases_lt k n) [ inl a ↦ each_below test n k (and_parts (test n) (all_below test n) h).1 a | inr a ↦ let e : n ≡ k = omega arith in subst (λ x. test x ≡ true) e (and_parts (test n) (all_below test n) h).0 ]

-- whether a table of 64 is four copies of its first 16 entries
abbrev pub are_copies : List ℕ → Bool
are_copies table = all_below (λ i. all_below (λ k. eqb (get_or table (i / 16 * 16 + k) 0) (get_or table k 0)) 16) 64

pub copies : (table : List ℕ) → are_copies table ≡ true → (i : ℕ) → i < 64 → (k : ℕ) → k < 16 → get_or table (i / 16 * 16 + k) 0 ≡ get_or table k 0
copies table e i h k l =
    let row = each_below (λ i. all_below (λ k. eqb (get_or table (i / 16 * 16 + k) 0) (get_or table k 0)) 16) 64 i e h in
    eqb-true _ _ (each_below (λ k. eqb (get_or table (i / 16 * 16 + k) 0) (get_or table k 0)) 16 k row l)

-- whether a test of pairs fails in a rectangle: of n numbers from a on and m from b on
abbrev pub fails_within : (ℕ → ℕ → Bool) → ℕ → ℕ → ℕ → ℕ → Bool
fails_within test a n b m = all_below (λ i. all_below (λ j. not (test (a + i) (b + j))) m) n

pub fails : (test : ℕ → ℕ → Bool) (a n b m : ℕ) → fails_within test a n b m ≡ true → (x y : ℕ) → a ≤ x → x < a + n → b ≤ y → y < b + m → test x y ≡ true → ⊥
fails test a n b m e x y p q r s t =
    let row = each_below (λ i. all_below (λ j. not (test (a + i) (b + j))) m) n (x - a) e (omega (arith, p, q)) in
    let cell = each_below (λ j. not (test (a + (x - a)) (b + j))) m (y - b) row (omega (arith, r, s)) in
    let first : a + (x - a) ≡ x = omega (arith, p) in
    let second : b + (y - b) ≡ y = omega (arith, r) in
    true≢false (sym (subst (λ z. not z ≡ true) t (rw (first, second) at cell)))
