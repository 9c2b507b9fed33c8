use Rattle.std.proofs.Common.{◌-◌, length, map}
use Rattle.glob_patterns.specs.Letters.{letters_of}
use Rattle.glob_patterns.specs.MixedSets.{glob_of}
use Rattle.glob_patterns.proofs.lemmas.MixedSets.{AreSetsSoFar}
use Rattle.glob_patterns.proofs.mixed_set.sets_of.Given as goal

abbrev pub invariant-loop-options : goal.invariant-loop-options
invariant-loop-options g l =
    AreSetsSoFar g.E.Platform.well_formed (letters_of g.E.Platform.units) (map glob_of l.fn.globs) l.index l.ways.items l.sets.items

abbrev pub decreases-loop-options : goal.decreases-loop-options
decreases-loop-options g l = length l.fn.globs - l.index
