use Rattle.std.proofs.Common.{◌≡◌, ◌+◌, map, length}
use Rattle.path_rules.specs.Views.{item_of}
use Rattle.path_building.proofs.lemmas.Restyles.{Searched}
use Rattle.path_building.proofs.styles.first_unlike.Given as goal

abbrev pub invariant-loop-left : goal.invariant-loop-left
invariant-loop-left l = Searched l.to l.index l.first (map item_of l.left) (map item_of l.items) × (l.index + length l.left ≡ length l.items)

abbrev pub decreases-loop-left : goal.decreases-loop-left
decreases-loop-left l = length l.left
