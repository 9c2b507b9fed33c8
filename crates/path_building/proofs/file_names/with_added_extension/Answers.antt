use Rattle.std.proofs.Common.{◌≡◌, ◌++◌, Bool, true, take, inl, refl}
use Rattle.path_building.specs.FileName.{IsExtensionAdded, dotted}
use Rattle.path_building.proofs.lemmas.Joins.{if_ok}
use Rattle.path_building.proofs.lemmas.FileNames.{name_extended}
use Rattle.path_rules.proofs.lemmas.Fields.{some_from}
use Rattle.path_building.proofs.file_names.with_added_extension.Goals as goal

pub returns : goal.returns
returns g c =
    let w = c.args.style in
    let path = c.args.path.now in
    let extension = c.args.extension.now in
    if_ok (λ made. made.items ≡ take c.in-Some.end path ++ dotted extension) (λ made. (is_added : Bool) × IsExtensionAdded w path extension made.items is_added)
    (λ made h. (true, inl (refl, name_extended w path c.in-Some.field-0-1.now extension made.items c.in-Some.end c.in-Some.ensures.1 (some_from extension c.is_empty.result c.if-is_empty.false c.is_empty.ensures) h)))
    c.extended.result c.extended.ensures
