use Rattle.test_path_uses.proofs.PathParts.{around_name}
use Rattle.std.proofs.Common.{[], ◌∷◌}
use Rattle.path_rules.specs.Component.{Normal}
use Rattle.test_path_uses.proofs.path_parts.around_name.Goals as goal

pub returns : goal.returns
returns g c = λ name are.
    let path = c.path_bytes.result.now in
    around_name g.E.PathStyle.follows g.E.Platform.units path name (c.component_units.ensures path (Normal name ∷ []) c.path_bytes.ensures.formed are)
