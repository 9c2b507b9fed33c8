use Rattle.std.proofs.Common.{length}
use Rattle.wildcards.proofs.lemmas.Skips.{NotYet}
use Rattle.wildcards.proofs.run.from_byte.Given as goal

abbrev pub invariant-loop-first : goal.invariant-loop-first
invariant-loop-first l = NotYet l.byte l.text l.left

abbrev pub decreases-loop-first : goal.decreases-loop-first
decreases-loop-first l = length l.left
