use Rattle.std.proofs.Common.{◌≡◌, length}
use Rattle.path_rules.specs.Component.{components_in}
use Rattle.path_rules.specs.Separators.{IsUpTo}
use Rattle.path_rules.proofs.body.last_part.Given as goal

abbrev pub invariant-loop-rest : goal.invariant-loop-rest
invariant-loop-rest l = (components_in l.rules l.body ≡ components_in l.rules l.left) × IsUpTo l.rules l.body l.left

abbrev pub decreases-loop-rest : goal.decreases-loop-rest
decreases-loop-rest l = length l.left
