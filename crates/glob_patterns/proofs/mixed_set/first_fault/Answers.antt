use Rattle.std.proofs.Common.{◌≡◌, map, subst, arith}
use Rattle.glob_text.specs.Texts.{IsFault}
use Rattle.glob_patterns.specs.Letters.{letters_of}
use Rattle.glob_patterns.specs.MixedSets.{HasMeaning, glob_of}
use Rattle.glob_patterns.specs.Options.{syntax_of}
use Rattle.glob_patterns.proofs.lemmas.MixedSets.{AreBelow, at_place, first_of, one_below, past}
use Rattle.glob_patterns.proofs.mixed_set.first_fault.Goals as goal

pub returns-in_default : goal.returns-in_default
returns-in_default g c =
    absurd (past (λ glob. IsFault g.E.Platform.well_formed (letters_of g.E.Platform.units) (syntax_of glob.0) glob.1 c.args.known.1) (map glob_of c.args.globs.now) c.loop-index.index c.args.known.0 c.in_default.ensures.first c.loop-index.invariant.1 c.requires)

pub returns-in-Err : goal.returns-in-Err
returns-in-Err g c =
    let formed = g.E.Platform.well_formed in
    let letters = letters_of g.E.Platform.units in
    let broken = rw c.in-Err.is at c.in_ok-fault.ensures in
    first_of formed letters _ (map glob_of c.args.globs.now) c.loop-index.index c.in-Err.fault c.loop-index.invariant.0
    (at_place (λ glob. IsFault formed letters (syntax_of glob.0) glob.1 c.in-Err.fault) (map glob_of c.args.globs.now) c.loop-index.index _ _ c.in-Some.ensures.first broken)

pub loop-index-preserved-in-Ok : goal.loop-index-preserved-in-Ok
loop-index-preserved-in-Ok g c =
    let read = rw c.in-Ok.is at c.in_ok-fault.ensures in
    let below = c.loop-index-test.true in (
      one_below (HasMeaning g.E.Platform.well_formed (letters_of g.E.Platform.units) _) (map glob_of c.args.globs.now) c.loop-index.index _ _ c.in-Some.ensures.first c.loop-index.invariant.0 (c.in-Ok.field-0.choices.items, read),
      omega (arith, below),
    )

pub returns : goal.returns
returns g c =
    let formed = g.E.Platform.well_formed in
    let letters = letters_of g.E.Platform.units in
    let globs = map glob_of c.args.globs.now in
    let past_it = c.loop-index-test.false in
    let most = c.loop-index.invariant.1 in
    let same : c.loop-index.index ≡ c.args.known.0 = omega (arith, past_it, most) in
    first_of formed letters _ globs c.args.known.0 c.args.known.1 (subst (AreBelow (HasMeaning formed letters _) globs) same c.loop-index.invariant.0) c.requires
