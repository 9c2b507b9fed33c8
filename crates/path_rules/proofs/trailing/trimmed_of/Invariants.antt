use Rattle.std.proofs.Common.{◌≤◌, length}
use Rattle.path_rules.proofs.lemmas.Trims.{SeparatorsFrom}
use Rattle.path_rules.proofs.trailing.trimmed_of.Given as goal

abbrev pub invariant-loop-at : goal.invariant-loop-at
invariant-loop-at l = record { inside : l.at ≤ length l.path; all : SeparatorsFrom l.rules l.path l.at }

abbrev pub decreases-loop-at : goal.decreases-loop-at
decreases-loop-at l = l.at
