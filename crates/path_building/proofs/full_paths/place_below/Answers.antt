use Rattle.path_building.specs.FullPath.{IsCleanedBelow, IsPlaceBelow}
use Rattle.path_building.proofs.lemmas.FullPaths.{placed_below}
use Rattle.path_building.proofs.lemmas.Joins.{if_ok}
use Rattle.path_building.proofs.full_paths.place_below.Goals as goal

pub returns-in-Windows : goal.returns-in-Windows
returns-in-Windows g c =
    let p = c.args.path.now in
    let directory = c.args.directory.now in
    if_ok (λ mid. IsCleanedBelow p.rest.now directory mid.items) (λ mid. IsPlaceBelow p.style p.whole.now directory mid.items)
    (λ mid h. placed_below p.style c.in-Windows.is p.whole.now directory mid.items _ p.rest.now p.found c.requires h)
    c.cleaned_below.result c.cleaned_below.ensures
