use Rattle.std.proofs.Common.{◌≡◌, ◌++◌, ◌-◌, Bool, true, length, take, inl, refl}
use Rattle.path_building.specs.FileName.{IsExtensionSet, dotted}
use Rattle.path_building.proofs.lemmas.Joins.{if_ok}
use Rattle.path_building.proofs.lemmas.FileNames.{stem_extended}
use Rattle.path_building.proofs.file_names.with_extension.Goals as goal

pub returns : goal.returns
returns g c =
    let w = c.args.style in
    let path = c.args.path.now in
    let extension = c.args.extension.now in
    let keep = c.in-Some.end - (length c.in-Some.name.now - length c.stem.result.now) in
    if_ok (λ made. made.items ≡ take keep path ++ dotted extension) (λ made. (is_set : Bool) × IsExtensionSet w path extension made.items is_set)
    (λ made h. (true, inl (refl, stem_extended w path c.in-Some.name.now c.stem.result.now extension made.items c.in-Some.end c.in-Some.ensures.0 c.in-Some.ensures.1 c.stem.ensures h)))
    c.extended.result c.extended.ensures
