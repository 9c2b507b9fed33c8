-- Bytes are equal if their first bytes are and their last bytes are.
use Rattle.std.proofs.Common.{◌%◌, ◌↔◌, Bool, cond, not, eqb, map, w8, take_all}
use Rattle.std.proofs.lemmas.{Bool.Decides.nat_tests, Grind.common_steps, Simd.tops_compared, Simd.mask_l-mod, Simd.length-zip2}
use Rattle.os_str_ext.proofs.Common.{◌≡◌, ℕ, ◌+◌, ◌-◌, ◌≤◌, ◌^◌, List, [], ◌∷◌, ◌++◌, true, length, take, drop, refl, sym, ap, ◌∙◌, arith, eqb-true, eq-eqb, take-append-drop, take-take, length-append, length-drop, take_at, IsPrefix, IsSuffix}
use lib.Lanes.{zip2, mask_l, top}

abbrev differ : ℕ → ℕ → Bool
differ a b = not (eqb a b)

none_differ : (xs ys : List ℕ) → length xs ≡ length ys → (mask_l (zip2 differ xs ys) ≡ 0) ↔ (xs ≡ ys)
none_differ [] [] same = (λ _. refl, λ _. refl)
none_differ [] (y ∷ ys) same = absurd (omega arith)
none_differ (x ∷ xs) [] same = absurd (omega arith)
none_differ (x ∷ xs) (y ∷ ys) same = grind (arith, nat_tests, common_steps, none_differ xs ys)

-- vectors of at most 64 lanes are the same if the mask of the lanes that differ is empty
pub same_lanes : (xs ys : List ℕ) (n : ℕ) → length xs ≡ n → length ys ≡ n → n ≤ 64 → (eqb (mask_l (map (top 7) (zip2 (λ a b. cond (differ a b) 255 0) xs ys)) % 2 ^ 64) 0 ≡ true) ↔ (xs ≡ ys)
same_lanes xs ys n p q few =
    let mask : mask_l (map (top 7) (zip2 (λ a b. cond (differ a b) 255 0) xs ys)) % 2 ^ 64 ≡ mask_l (zip2 differ xs ys) =
    ap (λ ms. mask_l ms % 2 ^ 64) (tops_compared w8 differ xs ys) ∙ mask_l-mod (zip2 differ xs ys) 64 (omega (arith, length-zip2 differ xs ys)) in
    let same = none_differ xs ys (p ∙ sym q) in
    (λ e. same.0 (sym mask ∙ eqb-true _ _ e), λ e. eq-eqb _ _ (mask ∙ same.1 e))

pub same_by_ends : (k : ℕ) (a b : List ℕ) → length a ≡ length b → k ≤ length a → length a ≤ k + k → take k a ≡ take k b → take k (drop (length a - k) a) ≡ take k (drop (length a - k) b) → a ≡ b
same_by_ends k a b lengths low high prefix suffix =
    let m = length a - k in
    let first : take m a ≡ take m b = sym (take-take m k a (omega arith)) ∙ ap (take m) prefix ∙ take-take m k b (omega arith) in
    let last : drop m a ≡ drop m b = sym (take_all k _ (omega (arith, length-drop m a))) ∙ suffix ∙ take_all k _ (omega (arith, length-drop m b)) in
    sym (take-append-drop m a) ∙ ap (λ x. x ++ drop m a) first ∙ ap (λ x. take m b ++ x) last ∙ take-append-drop m b

-- a prefix is what `take` gives and fits in the list; a suffix is what `drop` leaves
pub prefix_from_take : (p s : List ℕ) → take (length p) s ≡ p → IsPrefix p s
prefix_from_take p s e = record { rest = drop (length p) s; joined = sym (take-append-drop (length p) s) ∙ ap (λ x. x ++ drop (length p) s) e }

pub take_from_prefix : (p s : List ℕ) → IsPrefix p s → take (length p) s ≡ p
take_from_prefix p s h = ap (take (length p)) h.joined ∙ take_at p h.rest (length p) refl

pub prefix_fits : (p s : List ℕ) → IsPrefix p s → length p ≤ length s
prefix_fits p s h = let size : length s ≡ length p + length h.rest = ap length h.joined ∙ length-append p h.rest in omega arith

pub end_from_drop : (p s : List ℕ) → drop (length s - length p) s ≡ p → IsSuffix p s
end_from_drop p s e = record { rest = take (length s - length p) s; joined = sym (take-append-drop (length s - length p) s) ∙ ap (λ x. take (length s - length p) s ++ x) e }
