use Rattle.std.proofs.Common.{ℕ, List, [], map, length}
use Rattle.platform_str.specs.Strings.{path_vec_of}
use Rattle.path_building.specs.Collected.{ArePushed}
use Rattle.os_path.specs.Views.{os_item_of}
use Rattle.os_path.proofs.collected.from_components.Given as goal

abbrev pub invariant-loop-left : goal.invariant-loop-left
invariant-loop-left g l = (made : List ℕ) → ArePushed g.E.PathStyle.follows (path_vec_of l.path).items (map os_item_of l.left) made → ArePushed g.E.PathStyle.follows [] (map os_item_of l.components) made

abbrev pub decreases-loop-left : goal.decreases-loop-left
decreases-loop-left g l = length l.left
