use Rattle.std.proofs.Common.{◌↔◌, map, length}
use Rattle.path_rules.specs.Views.{item_of}
use Rattle.path_rules.specs.Compare.{AreAllAlike}
use Rattle.path_building.proofs.relative.are_all_alike.Given as goal

abbrev pub invariant-loop-left : goal.invariant-loop-left
invariant-loop-left l = AreAllAlike (map item_of l.left) (map item_of l.wanted) ↔ AreAllAlike (map item_of l.items) (map item_of l.others)

abbrev pub decreases-loop-left : goal.decreases-loop-left
decreases-loop-left l = length l.left
