use Rattle.std.proofs.Common.{◌≤◌, length}
use Rattle.os_ignore.proofs.lemmas.Cuts.{NoneFrom}
use Rattle.os_ignore.proofs.component.split_last.Given as goal

abbrev pub invariant-loop-at : goal.invariant-loop-at
invariant-loop-at l = (l.at ≤ length l.text) × NoneFrom l.separator l.text l.at

abbrev pub decreases-loop-at : goal.decreases-loop-at
decreases-loop-at l = l.at
