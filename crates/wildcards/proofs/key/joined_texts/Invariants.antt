use Rattle.std.proofs.Common.{length}
use Rattle.wildcards.proofs.lemmas.Keys.{TextsSoFar}
use Rattle.wildcards.proofs.key.joined_texts.Given as goal

abbrev pub invariant-loop-piece : goal.invariant-loop-piece
invariant-loop-piece g l = TextsSoFar l.pieces l.text.items l.first l.left

abbrev pub decreases-loop-piece : goal.decreases-loop-piece
decreases-loop-piece g l = length l.left
