use Rattle.std.proofs.Common.{◌≡◌, ℕ, List, take}
use Rattle.std.specs.List.{AllByRecursion}
use Rattle.osbytes_c.specs.Globs.{AreEachReported, IsMatched}
use Rattle.osbytes_c.specs.ItemLists.{items_of}
use Rattle.osbytes_c.proofs.globs.reported_of.Given as goal

-- what is reported so far is of the first items
abbrev pub invariant-loop-item : goal.invariant-loop-item
invariant-loop-item g l =
    (names : List (List ℕ)) × ((names ≡ items_of (take l.item-index l.paths))
    × (AllByRecursion g.E.Platform.well_formed names × AreEachReported (IsMatched g.E.Platform.units l.set.set.options l.set.set.patterns.items) names l.answers.items))
