use Rattle.std.proofs.Common.{length}
use Rattle.path_building.proofs.lemmas.CommonBases.{Together}
use Rattle.path_building.proofs.common_bases.shared.Given as goal

abbrev pub invariant-loop-item : goal.invariant-loop-item
invariant-loop-item l = Together l.style l.base l.other l.left.items l.others.items

abbrev pub decreases-loop-item : goal.decreases-loop-item
decreases-loop-item l = length l.left.items
