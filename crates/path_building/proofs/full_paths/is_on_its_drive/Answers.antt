use Rattle.path_rules.specs.Parsed.{kind_found}
use Rattle.path_rules.proofs.lemmas.Parsings.{either_found}
use Rattle.path_building.specs.FullPath.{IsOnDrive}
use Rattle.path_building.proofs.full_paths.is_on_its_drive.Goals as goal

pub returns : goal.returns
returns c =
    let p = c.args.path.now in
    let found = either_found p.style p.whole.now (kind_found p.prefix) p.rest.now (λ bare. Unit {0}) (λ kind rest. IsOnDrive p.style kind c.args.directory.now) p.found in (λ t. found.0 (c.is_on_found_drive.ensures.0 t), λ d. c.is_on_found_drive.ensures.1 (found.1 d))
