use Rattle.std.proofs.Common.{◌≤◌, ◌-◌, length}
use Rattle.path_rules.specs.Separators.{IsPlainBelow}
use Rattle.osbytes_c.proofs.paths.parts.first_separator.Given as goal

abbrev pub invariant-loop-at : goal.invariant-loop-at
invariant-loop-at l = (l.at ≤ length l.body) × IsPlainBelow l.rules l.body l.at

abbrev pub decreases-loop-at : goal.decreases-loop-at
decreases-loop-at l = length l.body - l.at
