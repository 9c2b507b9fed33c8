use Rattle.std.proofs.Common.{◌≡◌, ◌+◌, map, length}
use Rattle.path_building.specs.CommonBase.{bytes_of}
use Rattle.path_building.proofs.lemmas.CommonBases.{Walked}
use Rattle.path_building.proofs.common_bases.base_of.Given as goal

abbrev pub invariant-loop-left : goal.invariant-loop-left
invariant-loop-left l = Walked l.style l.first (map bytes_of l.others) (map bytes_of l.left) l.index l.base × (l.index + length l.left ≡ length l.others + 1)

abbrev pub decreases-loop-left : goal.decreases-loop-left
decreases-loop-left l = length l.left
