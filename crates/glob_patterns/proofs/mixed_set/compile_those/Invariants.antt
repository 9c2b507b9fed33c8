use Rattle.std.proofs.Common.{◌-◌, length, map, drop}
use Rattle.glob_patterns.specs.Letters.{letters_of}
use Rattle.glob_patterns.specs.MixedSets.{glob_of}
use Rattle.glob_patterns.proofs.lemmas.MixedSets.{AreReadSoFar}
use Rattle.glob_patterns.proofs.mixed_set.compile_those.Given as goal

abbrev pub invariant-loop-options : goal.invariant-loop-options
invariant-loop-options g l =
    AreReadSoFar g.E.Platform.well_formed (letters_of g.E.Platform.units) l.way (map glob_of l.fn.globs) (drop l.index (map glob_of l.fn.globs)) l.patterns.items

abbrev pub decreases-loop-options : goal.decreases-loop-options
decreases-loop-options g l = length l.fn.globs - l.index
