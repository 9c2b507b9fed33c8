use Rattle.std.proofs.Common.{length}
use Rattle.glob_patterns.specs.Letters.{letters_of}
use Rattle.glob_patterns.proofs.lemmas.MixedSets.{AreLeft}
use Rattle.glob_patterns.proofs.mixed_set.MixedGlobSet.is_match.Given as goal

abbrev pub invariant-loop-set : goal.invariant-loop-set
invariant-loop-set g l = AreLeft l.self.sets.items (letters_of g.E.Platform.units l.bytes) l.left

abbrev pub decreases-loop-set : goal.decreases-loop-set
decreases-loop-set g l = length l.left
