use Rattle.std.proofs.Common.{length}
use Rattle.wildcards.specs.PathSteps.{AreLastComponentsMatched}
use Rattle.wildcards.proofs.path.match_last.Given as goal

abbrev pub invariant-loop-last : goal.invariant-loop-last
invariant-loop-last g l = AreLastComponentsMatched g.L.Letters.formed g.L.Letters.letters l.options l.pieces l.fn.path l.left l.from

abbrev pub decreases-loop-last : goal.decreases-loop-last
decreases-loop-last g l = length l.left
