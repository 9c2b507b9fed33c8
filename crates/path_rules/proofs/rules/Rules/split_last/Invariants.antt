use Rattle.std.proofs.Common.{◌≤◌, length}
use Rattle.path_rules.specs.Separators.{separates}
use Rattle.path_rules.proofs.lemmas.Cuts.{NoneFrom}
use Rattle.path_rules.proofs.rules.Rules.split_last.Given as goal

abbrev pub invariant-loop-at : goal.invariant-loop-at
invariant-loop-at l = (l.at ≤ length l.path) × NoneFrom (separates l.self) l.path l.at

abbrev pub decreases-loop-at : goal.decreases-loop-at
decreases-loop-at l = l.at
