use Rattle.std.proofs.Common.{◌++◌, map, length}
use Rattle.path_rules.specs.Views.{item_of}
use Rattle.path_rules.specs.Component.{components_in}
use Rattle.path_rules.specs.Heads.{start_items}
use Rattle.path_building.specs.Walked.{IsWalkedTo}
use Rattle.path_building.proofs.walk.fit_names.Given as goal

abbrev pub invariant-loop-item : goal.invariant-loop-item
invariant-loop-item g l = IsWalkedTo l.style (start_items l.fn.start ++ components_in l.rules l.body) (map item_of l.names.items) (components_in l.rules l.left) l.at

abbrev pub decreases-loop-item : goal.decreases-loop-item
decreases-loop-item g l = length (components_in l.rules l.left)
