use Rattle.std.proofs.Common.{◌≡◌, map, reverse, length}
use Rattle.path_rules.specs.Views.{item_of}
use Rattle.path_rules.specs.Component.{components_in}
use Rattle.path_building.specs.Spelled.{cleaned}
use Rattle.path_building.proofs.cleaning.add_cleaned.Given as goal

abbrev pub invariant-loop-item : goal.invariant-loop-item
invariant-loop-item g l = cleaned l.rooted (reverse (map item_of l.names.items)) (components_in l.rules l.left) ≡ cleaned l.rooted (reverse (map item_of l.fn.names.items)) (components_in l.rules l.body)

abbrev pub decreases-loop-item : goal.decreases-loop-item
decreases-loop-item g l = length (components_in l.rules l.left)
