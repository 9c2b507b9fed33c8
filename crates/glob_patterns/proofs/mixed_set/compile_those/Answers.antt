use Rattle.std.proofs.Common.{map}
use Rattle.glob_text.specs.Texts.{IsFault}
use Rattle.glob_patterns.specs.Letters.{letters_of}
use Rattle.glob_patterns.specs.MixedSets.{glob_of}
use Rattle.glob_patterns.specs.Options.{syntax_of}
use Rattle.glob_patterns.proofs.lemmas.MixedSets.{at_place, one_read}
use Rattle.glob_patterns.proofs.mixed_set.compile_those.Goals as goal

pub returns-in-Err : goal.returns-in-Err
returns-in-Err g c =
    let broken = rw c.in-Err.is at c.in_ok-pattern.ensures in
    at_place (λ glob. IsFault g.E.Platform.well_formed (letters_of g.E.Platform.units) (syntax_of glob.0) glob.1 c.in-Err.fault) (map glob_of c.args.globs.now) c.loop-options.index _ _ c.in-Some.ensures.first broken

pub loop-options-preserved : goal.loop-options-preserved
loop-options-preserved g c =
    let read = rw c.in-Ok.is at c.in_ok-pattern.ensures in
    one_read g.E.Platform.well_formed (letters_of g.E.Platform.units) c.args.way (map glob_of c.args.globs.now) _ _ _ c.loop-options.patterns.items _ c.in-Ok.pattern c.in-Some.ensures.first c.loop-options.invariant read c.in_ok-push-in-Ok.ensures.items
