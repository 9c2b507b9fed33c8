use Rattle.wtf8_core.proofs.Common.{ℕ, ◌-◌, ◌<◌, length}
use Rattle.wtf8_core.specs.Surrogate.{IsSurrogateAt}
use Rattle.wtf8_core.proofs.vectors.surrogates.text_from.Given as goal

abbrev pub invariant-loop-at : goal.invariant-loop-at
invariant-loop-at l = (l.at < length l.bytes) × ((i : ℕ) → i < l.at → ¬ (IsSurrogateAt l.bytes i))

abbrev pub decreases-loop-at : goal.decreases-loop-at
decreases-loop-at l = length l.bytes - l.at

abbrev pub invariant-loop-at-2 : goal.invariant-loop-at-2
invariant-loop-at-2 l = (l.at < length l.bytes) × ((i : ℕ) → i < l.at → ¬ (IsSurrogateAt l.bytes i))

abbrev pub decreases-loop-at-2 : goal.decreases-loop-at-2
decreases-loop-at-2 l = l.at
