use Rattle.std.proofs.Common.{◌≤◌, length}
use Rattle.path_rules.proofs.lemmas.ReservedNames.{BlankFrom}
use Rattle.path_rules.proofs.reserved.without_spaces.Given as goal

abbrev pub invariant-loop-at : goal.invariant-loop-at
invariant-loop-at l = record { inside : l.at ≤ length l.name; blank : BlankFrom l.name l.at }

abbrev pub decreases-loop-at : goal.decreases-loop-at
decreases-loop-at l = l.at
