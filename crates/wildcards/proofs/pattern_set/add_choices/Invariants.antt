use Rattle.std.proofs.Common.{length}
use Rattle.wildcards.proofs.lemmas.Covers.{CoversSoFar}
use Rattle.wildcards.proofs.pattern_set.add_choices.Given as goal

abbrev pub invariant-loop-first : goal.invariant-loop-first
invariant-loop-first g l = CoversSoFar l.options l.fn.filter l.pattern l.choices l.filter l.left

abbrev pub decreases-loop-first : goal.decreases-loop-first
decreases-loop-first g l = length l.left
