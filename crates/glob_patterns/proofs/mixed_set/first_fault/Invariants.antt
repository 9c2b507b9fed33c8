use Rattle.std.proofs.Common.{◌≤◌, ◌-◌, map}
use Rattle.glob_patterns.specs.Letters.{letters_of}
use Rattle.glob_patterns.specs.MixedSets.{HasMeaning, glob_of}
use Rattle.glob_patterns.proofs.lemmas.MixedSets.{AreBelow}
use Rattle.glob_patterns.proofs.mixed_set.first_fault.Given as goal

abbrev pub invariant-loop-index : goal.invariant-loop-index
invariant-loop-index g l =
    AreBelow (HasMeaning g.E.Platform.well_formed (letters_of g.E.Platform.units) g.row.A.Denot) (map glob_of l.globs) l.index × (l.index ≤ l.known.0)

abbrev pub decreases-loop-index : goal.decreases-loop-index
decreases-loop-index g l = l.known.0 - l.index
