use Rattle.std.proofs.Common.{length}
use Rattle.wildcards.proofs.lemmas.Flags.{StayingSoFar}
use Rattle.wildcards.proofs.automaton.staying.Given as goal

abbrev pub invariant-loop-last : goal.invariant-loop-last
invariant-loop-last g l = StayingSoFar l.pieces l.left l.word l.count

abbrev pub decreases-loop-last : goal.decreases-loop-last
decreases-loop-last g l = length l.left
