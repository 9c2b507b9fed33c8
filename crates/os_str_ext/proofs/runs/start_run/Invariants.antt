use Rattle.os_str_ext.proofs.{Common.◌-◌, Common.◌≤◌, Common.length, Common.take, lemmas.Runs.IsRun}
use Rattle.os_str_ext.proofs.runs.start_run.Given as goal

abbrev pub invariant-loop-at : goal.invariant-loop-at
invariant-loop-at l = (l.at ≤ length l.bytes) × IsRun l.text (take l.at l.bytes)

abbrev pub decreases-loop-at : goal.decreases-loop-at
decreases-loop-at l = length l.bytes - l.at
