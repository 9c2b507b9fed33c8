use Rattle.std.proofs.Common.{length}
use Rattle.wildcards.specs.declared.filter.Place.{Place}
use Rattle.wildcards.specs.Filters.{IsHitAt}
use Rattle.wildcards.specs.Sets.{Has}
use Rattle.wildcards.proofs.pattern_set.PatternSet.any_hit.Given as goal

abbrev pub invariant-loop-place : goal.invariant-loop-place
invariant-loop-place g l = (place : Place) → Has l.places place → IsHitAt l.self.options l.self.patterns.items (g.L.Letters.letters l.path) place → Has l.left place

abbrev pub decreases-loop-place : goal.decreases-loop-place
decreases-loop-place g l = length l.left
