use Rattle.std.proofs.Common.{List, map, length}
use Rattle.path_rules.specs.Component.{Item}
use Rattle.path_rules.specs.Views.{item_of}
use Rattle.path_building.specs.Relative.{AreApart}
use Rattle.path_building.proofs.relative.apart.Given as goal

abbrev pub invariant-loop-left : goal.invariant-loop-left
invariant-loop-left l = (us vs : List Item) → AreApart (map item_of l.left) (map item_of l.wanted) us vs → AreApart (map item_of l.items) (map item_of l.base_items) us vs

abbrev pub decreases-loop-left : goal.decreases-loop-left
decreases-loop-left l = length l.left
