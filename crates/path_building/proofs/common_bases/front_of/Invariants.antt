use Rattle.std.proofs.Common.{ℕ, List, length}
use Rattle.path_building.specs.CommonBase.{PartsAt}
use Rattle.path_building.proofs.lemmas.CommonBases.{Parting}
use Rattle.path_building.proofs.common_bases.front_of.Given as goal

abbrev pub invariant-loop-above : goal.invariant-loop-above
invariant-loop-above l = (other : List ℕ) → PartsAt l.style l.base other (length l.fn.left.items) → Parting l.style l.base other l.front (length l.left.items)

abbrev pub decreases-loop-above : goal.decreases-loop-above
decreases-loop-above l = length l.left.items
