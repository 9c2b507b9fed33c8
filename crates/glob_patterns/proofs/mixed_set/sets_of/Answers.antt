use Rattle.std.proofs.Common.{◌∙◌, ◌++◌, ◌∷◌, [], ap, map, subst, sym}
use Rattle.wildcards.specs.Sets.{Has}
use Rattle.glob_patterns.specs.Letters.{letters_of}
use Rattle.glob_patterns.specs.MixedSets.{ArePatternsAt, glob_of}
use Rattle.glob_patterns.specs.Options.{options_of}
use Rattle.glob_patterns.proofs.lemmas.MixedSets.{all_made, set_made, set_there}
use Rattle.glob_patterns.proofs.mixed_set.sets_of.Goals as goal

pub loop-options-preserved-then-has : goal.loop-options-preserved-then-has
loop-options-preserved-then-has g c =
    let ways = c.loop-options.ways.items in
    let there = subst (λ z. Has ways z) c.matching-way.ensures (subst (λ z. Has z c.matching-way.result) c.deref.ensures.value (c.has.ensures.0 c.if-has.true)) in
    set_there g.E.Platform.well_formed (letters_of g.E.Platform.units) (map glob_of c.args.globs.now) c.loop-options.index ways c.loop-options.sets.items _ _ c.in-Some.ensures.first c.loop-options.invariant there

pub loop-options-preserved : goal.loop-options-preserved
loop-options-preserved g c =
    let formed = g.E.Platform.well_formed in
    let letters = letters_of g.E.Platform.units in
    let globs = map glob_of c.args.globs.now in
    let ways = c.loop-options.ways.items in
    let way = options_of c.in-Some.options in
    let read = rw c.in-Ok.is at c.in_ok-patterns.ensures in
    let patterns = subst (λ z. ArePatternsAt formed letters z globs c.in-Ok.patterns.items) c.matching-way.ensures read in
    let set = c.in_ok-new-in-Ok.field-0 in
    let made = c.in_ok-new-in-Ok.ensures in
    set_made formed letters globs c.loop-options.index ways c.push-in-Ok.new.self.items c.loop-options.sets.items c.push.new.self.items _ _ set c.in-Some.ensures.first c.loop-options.invariant
    (made.0 ∙ c.matching-way.ensures)
    (subst (λ z. ArePatternsAt formed letters way globs z.items) (sym made.1) patterns)
    c.in_ok-push-in-Ok.ensures.items
    (c.in_ok-push-in-Ok-2.ensures.items ∙ ap (λ z. ways ++ z ∷ []) c.matching-way.ensures)

pub returns : goal.returns
returns g c =
    all_made g.E.Platform.well_formed (letters_of g.E.Platform.units) (map glob_of c.args.globs.now) c.loop-options.index c.loop-options.ways.items c.loop-options.sets.items c.in_default.ensures.first c.loop-options.invariant
