use Rattle.std.proofs.Common.{subst, sym}
use Rattle.std.proofs.lemmas.List.Filters.{dedup_is}
use Rattle.platform_str.specs.Strings.{bytes}
use Rattle.glob_patterns.specs.Letters.{letters_of}
use Rattle.glob_patterns.specs.MixedSets.{AreSetHits, FoundInSets}
use Rattle.glob_patterns.specs.Readings.{letter_laws}
use Rattle.glob_patterns.proofs.lemmas.MixedSets.{in_order, matches_of_globs}
use Rattle.glob_patterns.proofs.mixed_set.MixedGlobSet.matches.Goals as goal

pub returns-in-Ok-clause-value : goal.returns-in-Ok-clause-value
returns-in-Ok-clause-value g c =
    let sets = c.args.self.now.sets.items in
    let letters = letters_of g.E.Platform.units in
    let path = letters (bytes c.args.path) in
    let found = subst (λ raw. FoundInSets sets (letters raw) c.add_matches.new.found.items) c.as_encoded_bytes.ensures.value c.in-Ok.ensures in
    subst (AreSetHits sets path) (sym (dedup_is _ _ _ c.dedup.ensures.filtered))
    (in_order sets path c.add_matches.new.found.items c.sort_unstable.new.self.items c.sort_unstable.ensures.permutation c.sort_unstable.ensures.sorted found)

pub returns-in-Ok-clause-texts : goal.returns-in-Ok-clause-texts
returns-in-Ok-clause-texts g c =
    let path = letters_of g.E.Platform.units (bytes c.args.path) in
    let met = g.met.E.Platform in
    matches_of_globs g.E.Platform.well_formed (letters_of g.E.Platform.units) (letter_laws met.laws met.parts met.occurrence) path c.args.self.now.sets.items c.dedup.new.self.items (returns-in-Ok-clause-value g c)
