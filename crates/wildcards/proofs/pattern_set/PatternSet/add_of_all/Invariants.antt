use Rattle.std.proofs.Common.{◌≤◌, ◌-◌, length}
use Rattle.wildcards.proofs.lemmas.Adding.{FoundBelow}
use Rattle.wildcards.proofs.pattern_set.PatternSet.add_of_all.Given as goal

abbrev pub invariant-loop-at : goal.invariant-loop-at
invariant-loop-at g l = (l.at ≤ length l.self.patterns.items) × FoundBelow l.self.options l.self.patterns.items (g.L.Letters.letters l.path) l.at l.found.items

abbrev pub decreases-loop-at : goal.decreases-loop-at
decreases-loop-at g l = length l.self.patterns.items - l.at
