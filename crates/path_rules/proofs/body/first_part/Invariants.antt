use Rattle.std.proofs.Common.{◌≡◌, length}
use Rattle.path_rules.specs.Component.{components_in}
use Rattle.path_rules.specs.Taken.{IsTail}
use Rattle.path_rules.specs.FirstPart.{IsSkipped}
use Rattle.path_rules.proofs.body.first_part.Given as goal

abbrev pub invariant-loop-part : goal.invariant-loop-part
invariant-loop-part l = (components_in l.rules l.body ≡ components_in l.rules l.left) × (IsTail l.body l.left × IsSkipped l.rules l.body l.left)

abbrev pub decreases-loop-part : goal.decreases-loop-part
decreases-loop-part l = length l.left
