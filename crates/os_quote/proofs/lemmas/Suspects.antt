-- Suspects: none from one index up to another.
use Rattle.os_quote.proofs.Common.{◌≡◌, ⊎_elim, ℕ, ◌+◌, ◌-◌, ◌<◌, false, List, get_or, drop, ap, ◌∙◌, subst, arith, get_or-drop, cases_lt, is_suspect, AllClear}

-- the byte at an index is none
abbrev IsClear : List ℕ → ℕ → Type 0
IsClear bytes k = is_suspect (get_or bytes k 0) (get_or bytes (1 + k) 0) (get_or bytes (2 + k) 0) ≡ false

pub none_yet : (bytes : List ℕ) (from : ℕ) → AllClear bytes from from
none_yet bytes from k low lt = absurd (omega (arith, low, lt))

-- some more, and the one after them
pub one_more : (bytes : List ℕ) (from at n : ℕ) → AllClear bytes from at → AllClear bytes at (at + n) → is_suspect (get_or bytes (at + n) 0) (get_or bytes (1 + (at + n)) 0) (get_or bytes (2 + (at + n)) 0) ≡ false → AllClear bytes from (at + n + 1)
one_more bytes from at n before more one k low lt =
    ⊎_elim (λ l. before k low l) (λ g. ⊎_elim (λ l. more k g l) (λ m. let e : at + n ≡ k = omega (arith, m, lt) in subst (IsClear bytes) e one) (cases_lt k (at + n))) (cases_lt k at)

pub some_more : (bytes : List ℕ) (from at n : ℕ) → AllClear bytes from at → AllClear bytes at (at + n) → AllClear bytes from (at + n)
some_more bytes from at n before more k low lt = ⊎_elim (λ l. before k low l) (λ g. more k g lt) (cases_lt k at)

-- those of a block
pub in_block : (bytes : List ℕ) (at n : ℕ) → ((i : ℕ) → i < n → is_suspect (get_or (drop at bytes) (0 + i) 0) (get_or (drop at bytes) (1 + i) 0) (get_or (drop at bytes) (2 + i) 0) ≡ false) → AllClear bytes at (at + n)
in_block bytes at n clear k low lt =
    let first : at + (0 + (k - at)) ≡ k = omega (arith, low) in
    let second : at + (1 + (k - at)) ≡ 1 + k = omega (arith, low) in
    let third : at + (2 + (k - at)) ≡ 2 + k = omega (arith, low) in
    subst (λ i. is_suspect (get_or bytes i 0) (get_or bytes (1 + k) 0) (get_or bytes (2 + k) 0) ≡ false) first
    (subst (λ i. is_suspect (get_or bytes (at + (0 + (k - at))) 0) (get_or bytes i 0) (get_or bytes (2 + k) 0) ≡ false) second
    (subst (λ i. is_suspect (get_or bytes (at + (0 + (k - at))) 0) (get_or bytes (at + (1 + (k - at))) 0) (get_or bytes i 0) ≡ false) third
    (rw (get_or-drop at bytes (0 + (k - at)) 0, get_or-drop at bytes (1 + (k - at)) 0, get_or-drop at bytes (2 + (k - at)) 0) at (clear (k - at) (omega (arith, low, lt))))))

-- those of a copy of what follows an index
pub in_copy : (bytes rest block : List ℕ) (at n : ℕ) → rest ≡ drop at bytes → ((i : ℕ) → get_or block i 0 ≡ get_or rest i 0)
    → ((i : ℕ) → i < n → is_suspect (get_or block (0 + i) 0) (get_or block (1 + i) 0) (get_or block (2 + i) 0) ≡ false) → AllClear bytes at (at + n)
in_copy bytes rest block at n back reads clear =
    let left = drop at bytes in
    let read : (k : ℕ) → get_or block k 0 ≡ get_or left k 0 = λ k. reads k ∙ ap (λ l. get_or l k 0) back in
    in_block bytes at n
    (λ i lt. subst (λ x. is_suspect x (get_or left (1 + i) 0) (get_or left (2 + i) 0) ≡ false) (read (0 + i))
    (subst (λ y. is_suspect (get_or block (0 + i) 0) y (get_or left (2 + i) 0) ≡ false) (read (1 + i))
    (subst (λ z. is_suspect (get_or block (0 + i) 0) (get_or block (1 + i) 0) z ≡ false) (read (2 + i)) (clear i lt))))

pub ruleset suspects = (none_yet, one_more, some_more)
