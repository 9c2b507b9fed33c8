use Rattle.std.proofs.lemmas.Result.{MatchResult-weaker}
use Rattle.osbytes_c.proofs.lemmas.Globs.{with_paths, without_paths}
use Rattle.osbytes_c.proofs.globs.reported_on.Goals as goal

pub returns : goal.returns
returns g c =
    let formed = g.E.Platform.well_formed in
    let units = g.E.Platform.units in
    let patterns = c.args.patterns.now in
    let paths = c.args.paths.now in
    let set = c.in_ok-set.set.set in
    let are = c.in_ok-set.ensures in
    MatchResult-weaker c.reported_of.result c.reported_of.ensures (λ answers reported. with_paths formed units c.args.options patterns paths set.options set.patterns.items are answers.items reported)
    (λ rejection is. without_paths formed units c.args.options patterns paths set.options set.patterns.items are rejection is)
