use Rattle.std.proofs.Common.{length, subst}
use Rattle.platform_str.specs.Strings.{path_bytes}
use Rattle.test_path_uses.proofs.PathParts.{begins_with_units}
use Rattle.test_path_uses.proofs.path_parts.prefix_of_units.Goals as goal

pub returns : goal.returns
returns g c =
    let s = path_bytes c.args.path in
    let formed = subst g.E.Platform.well_formed c.path_bytes-raw.ensures.value c.path_bytes-raw.ensures.formed in
    begins_with_units path_bytes g.E.PathStyle.follows s g.E.Platform.units (λ before after e cut. c.cuts.ensures.cut_units s (length before) formed (c.cut_boundaries.ensures s before after e cut)) c.parent.result c.parent.ensures
