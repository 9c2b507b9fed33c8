use Rattle.path_building.proofs.lemmas.Beginnings.{colon_found}
use Rattle.path_building.proofs.beginning.first_has_colon.Goals as goal

pub returns : goal.returns
returns c =
    let field = c.split_field.result in colon_found c.args.path.now field.0.now field.1.now c.has_colon.result c.split_field.ensures c.has_colon.ensures
