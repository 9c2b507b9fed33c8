use Rattle.std.proofs.Common.{ℕ, List, length}
use Rattle.wildcards.specs.Candidates.{AreBefore, left_keys, lists_of}
use Rattle.wildcards.proofs.lemmas.Adding.{Finding}
use Rattle.wildcards.proofs.pattern_set.PatternSet.add_matches.Given as goal

abbrev pub invariant-loop-places : goal.invariant-loop-places
invariant-loop-places g l = (keys : List (List ℕ)) × (AreBefore l.query l.stage l.visited.keys keys × Finding l.self.options l.self.patterns.items (g.L.Letters.letters l.path) (lists_of l.query keys) l.found.items)

abbrev pub decreases-loop-places : goal.decreases-loop-places
decreases-loop-places g l = length (left_keys l.query l.stage)
