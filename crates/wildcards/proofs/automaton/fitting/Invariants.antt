use Rattle.std.proofs.Common.{length}
use Rattle.wildcards.specs.Match.{Fits}
use Rattle.wildcards.specs.Places.{FitsFirst}
use Rattle.wildcards.proofs.lemmas.Flags.{FlagsSoFar}
use Rattle.wildcards.proofs.automaton.fitting.Given as goal

abbrev pub invariant-loop-last : goal.invariant-loop-last
invariant-loop-last g l = FlagsSoFar (FitsFirst Fits l.letter) l.pieces l.left l.word

abbrev pub decreases-loop-last : goal.decreases-loop-last
decreases-loop-last g l = length l.left
