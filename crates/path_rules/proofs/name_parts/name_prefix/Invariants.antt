use Rattle.std.proofs.Common.{◌≤◌, ◌-◌, ◌≢◌, length}
use Rattle.path_rules.specs.Name.{dot_dot}
use Rattle.path_rules.proofs.lemmas.Dots.{NoLaterDotBelow}
use Rattle.path_rules.proofs.name_parts.name_prefix.Given as goal

abbrev pub invariant-loop-at : goal.invariant-loop-at
invariant-loop-at l = record { low : 1 ≤ l.at; no_dot : NoLaterDotBelow l.name l.at; other : l.name ≢ dot_dot }

abbrev pub decreases-loop-at : goal.decreases-loop-at
decreases-loop-at l = length l.name - l.at
