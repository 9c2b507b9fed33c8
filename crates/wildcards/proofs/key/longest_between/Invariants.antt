use Rattle.std.proofs.Common.{IfSome, length}
use Rattle.wildcards.specs.Keys.{BeginsAt, IsBetween}
use Rattle.wildcards.proofs.key.longest_between.Given as goal

abbrev pub invariant-loop-own : goal.invariant-loop-own
invariant-loop-own g l = BeginsAt l.pieces l.left × IfSome l.longest (λ text. IsBetween l.pieces text.items)

abbrev pub decreases-loop-own : goal.decreases-loop-own
decreases-loop-own g l = length l.left
