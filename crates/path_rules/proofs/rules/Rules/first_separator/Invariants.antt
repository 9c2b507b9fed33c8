use Rattle.std.proofs.Common.{◌≤◌, ◌-◌, length}
use Rattle.path_rules.specs.Separators.{IsPlainBelow}
use Rattle.path_rules.proofs.rules.Rules.first_separator.Given as goal

abbrev pub invariant-loop-at : goal.invariant-loop-at
invariant-loop-at l = (l.at ≤ length l.path) × IsPlainBelow l.self l.path l.at

abbrev pub decreases-loop-at : goal.decreases-loop-at
decreases-loop-at l = length l.path - l.at
