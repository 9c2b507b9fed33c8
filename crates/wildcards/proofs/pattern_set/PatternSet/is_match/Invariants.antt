use Rattle.std.proofs.Common.{ℕ, List, length}
use Rattle.wildcards.specs.declared.filter.Place.{Place}
use Rattle.wildcards.specs.Candidates.{OneHas, AreBefore, left_keys, lists_of}
use Rattle.wildcards.specs.Filters.{IsHitAt}
use Rattle.wildcards.proofs.pattern_set.PatternSet.is_match.Given as goal

abbrev pub invariant-loop-places : goal.invariant-loop-places
invariant-loop-places g l = (keys : List (List ℕ)) × (AreBefore l.query l.stage l.visited.keys keys × ((place : Place) → OneHas (lists_of l.query keys) place → IsHitAt l.self.options l.self.patterns.items (g.L.Letters.letters l.path) place → ⊥))

abbrev pub decreases-loop-places : goal.decreases-loop-places
decreases-loop-places g l = length (left_keys l.query l.stage)
