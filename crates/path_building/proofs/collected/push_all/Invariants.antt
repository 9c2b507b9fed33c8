use Rattle.std.proofs.Common.{ℕ, List, map, length}
use Rattle.path_rules.specs.Views.{item_of}
use Rattle.path_building.specs.Collected.{ArePushed}
use Rattle.path_building.proofs.collected.push_all.Given as goal

abbrev pub invariant-loop-left : goal.invariant-loop-left
invariant-loop-left g l = (made : List ℕ) → ArePushed l.style l.path.items (map item_of l.left) made → ArePushed l.style l.fn.path.items (map item_of l.components) made

abbrev pub decreases-loop-left : goal.decreases-loop-left
decreases-loop-left g l = length l.left
