use Rattle.std.proofs.Common.{length}
use Rattle.wildcards.proofs.lemmas.Adding.{Adding}
use Rattle.wildcards.proofs.pattern_set.PatternSet.add_hits.Given as goal

abbrev pub invariant-loop-place : goal.invariant-loop-place
invariant-loop-place g l = Adding l.self.options l.self.patterns.items (g.L.Letters.letters l.path) l.places l.fn.found.items l.left l.found.items

abbrev pub decreases-loop-place : goal.decreases-loop-place
decreases-loop-place g l = length l.left
