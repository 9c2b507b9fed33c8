use Rattle.std.proofs.Common.{◌≤◌, ◌≢◌, length}
use Rattle.path_rules.specs.Name.{dot_dot}
use Rattle.path_rules.proofs.lemmas.Dots.{NoDotFrom}
use Rattle.path_rules.proofs.name_parts.split_extension.Given as goal

abbrev pub invariant-loop-at : goal.invariant-loop-at
invariant-loop-at l = record { inside : l.at ≤ length l.name; no_dot : NoDotFrom l.name l.at; other : l.name ≢ dot_dot }

abbrev pub decreases-loop-at : goal.decreases-loop-at
decreases-loop-at l = l.at
