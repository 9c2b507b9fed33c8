use Rattle.std.proofs.Common.{length}
use Rattle.glob_patterns.specs.Letters.{letters_of}
use Rattle.glob_patterns.proofs.lemmas.MixedSets.{AreFoundSoFar}
use Rattle.glob_patterns.proofs.mixed_set.MixedGlobSet.add_matches.Given as goal

abbrev pub invariant-loop-set : goal.invariant-loop-set
invariant-loop-set g l = AreFoundSoFar l.self.sets.items (letters_of g.E.Platform.units l.path) l.left l.found.items

abbrev pub decreases-loop-set : goal.decreases-loop-set
decreases-loop-set g l = length l.left
