use Rattle.std.proofs.Common.{◌≡◌, ◌∙◌, ◌++◌}
use Rattle.path_building.specs.FileName.{IsNamed}
use Rattle.path_building.specs.FileStem.{IsStemSet}
use Rattle.path_building.proofs.lemmas.FileStems.{stem_set}
use Rattle.path_building.proofs.lemmas.Joins.{if_ok}
use Rattle.path_building.proofs.file_stems.with_file_stem.Goals as goal

pub returns : goal.returns
returns g c =
    let w = c.args.style in
    let path = c.args.path.now in
    let stem = c.args.file_stem.now in
    let after = c.split_at.result.1.now in
    let named = c.deref.result.now in
    let new : named ≡ stem ++ after = c.deref.ensures.value ∙ c.in_ok-named.ensures in
    if_ok (λ made. IsNamed w path named made.items) (λ made. IsStemSet w path stem made.items)
    (λ made h. stem_set w path c.in-Some.name.now c.stem.result.now stem after named made.items c.in-Some.field-0-0 c.in-Some.ensures.1 c.stem.ensures c.split_at.ensures.back new h)
    c.with_file_name.result c.with_file_name.ensures
