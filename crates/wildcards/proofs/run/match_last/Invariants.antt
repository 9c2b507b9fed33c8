use Rattle.std.proofs.Common.{length}
use Rattle.wildcards.specs.Steps.{AreLastMatched}
use Rattle.wildcards.proofs.run.match_last.Given as goal

abbrev pub invariant-loop-last : goal.invariant-loop-last
invariant-loop-last g l = AreLastMatched g.L.Letters.formed g.L.Letters.letters l.pieces l.text l.left l.from

abbrev pub decreases-loop-last : goal.decreases-loop-last
decreases-loop-last g l = length l.left
