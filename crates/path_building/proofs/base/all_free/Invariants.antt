use Rattle.std.proofs.Common.{◌↔◌, length}
use Rattle.std.specs.List.{AllByRecursion}
use Rattle.path_rules.specs.Component.{components_in}
use Rattle.path_building.specs.Base.{IsFree}
use Rattle.path_building.proofs.base.all_free.Given as goal

abbrev pub invariant-loop-item : goal.invariant-loop-item
invariant-loop-item l = AllByRecursion IsFree (components_in l.rules l.left) ↔ AllByRecursion IsFree (components_in l.rules l.body)

abbrev pub decreases-loop-item : goal.decreases-loop-item
decreases-loop-item l = length (components_in l.rules l.left)
