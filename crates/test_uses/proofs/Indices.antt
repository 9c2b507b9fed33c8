-- Where a list occurs: within the other, what is cut out there, and one first index.
use Rattle.std.proofs.Common.{◌≡◌, ⊎_elim, ℕ, ◌+◌, ◌≤◌, List, ◌++◌, length, take, drop, sym, ap, arith, length-append}
use Rattle.std.proofs.lemmas.Bool.{cases_lt}
use Rattle.std.proofs.Math.Seq.{take-append-add, take-append_seam, drop-append_seam}
use Rattle.wtf8_core.specs.Occurrence.{OccursAt, IsFirstIndex}

pub occurs_within : (p s : List ℕ) (i : ℕ) → OccursAt p s i → i + length p ≤ length s
occurs_within p s i occurs =
    let long = ap length occurs.joined in
    let all = length-append occurs.before (p ++ occurs.after) in
    let back = length-append p occurs.after in
    let index = occurs.index in
    omega (arith, long, all, back, index)

pub cut_out_there : (p s : List ℕ) (i : ℕ) → OccursAt p s i → drop i (take (i + length p) s) ≡ p
cut_out_there p s i occurs =
    rw (occurs.joined, sym occurs.index, take-append-add occurs.before (p ++ occurs.after) (length p), take-append_seam p occurs.after)
    (drop-append_seam occurs.before p)

pub one_first_index : (p s : List ℕ) (i k : ℕ) → IsFirstIndex p s i → IsFirstIndex p s k → i ≡ k
one_first_index p s i k a b =
    ⊎_elim (λ lt. absurd (b.least i lt a.occurs)) (λ le. ⊎_elim (λ lt. absurd (a.least k lt b.occurs)) (λ ge. omega (arith, le, ge)) (cases_lt k i)) (cases_lt i k)
