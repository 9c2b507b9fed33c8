use Rattle.std.proofs.Common.{length}
use Rattle.wildcards.specs.Small.{IsSmallPart}
use Rattle.wildcards.proofs.lemmas.Small.{PairedSoFar}
use Rattle.wildcards.proofs.small.small_parts.Given as goal

abbrev pub invariant-loop-piece : goal.invariant-loop-piece
invariant-loop-piece g l = PairedSoFar IsSmallPart l.parts l.small.items l.left

abbrev pub decreases-loop-piece : goal.decreases-loop-piece
decreases-loop-piece g l = length l.left
