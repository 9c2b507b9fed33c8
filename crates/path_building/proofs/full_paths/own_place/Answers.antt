use Rattle.std.proofs.Common.{IfOk, sym, subst}
use Rattle.path_building.specs.Cleaned.{IsCleaned}
use Rattle.path_building.specs.FullPath.{IsOwnPlace}
use Rattle.path_building.proofs.full_paths.own_place.Goals as goal

pub returns-in-Windows : goal.returns-in-Windows
returns-in-Windows g c =
    let path = c.args.path.now in
    let cleaned = subst (λ w. IfOk c.clean.result (λ mid. IsCleaned w path mid.items)) c.in-Windows.is c.clean.ensures in
    subst (λ w. IfOk c.clean.result (λ mid. IsOwnPlace w path mid.items)) (sym c.in-Windows.is) cleaned
