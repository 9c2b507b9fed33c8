use Rattle.std.proofs.Common.{sym, subst}
use Rattle.path_rules.specs.declared.rules.Style.TheVariants as style
use Rattle.path_building.specs.Cleaned.{IsCleaned}
use Rattle.path_building.specs.Join.{IsJoin}
use Rattle.path_building.specs.FullPath.{IsCleanedBelow}
use Rattle.path_building.proofs.lemmas.Joins.{if_ok}
use Rattle.path_building.proofs.full_paths.cleaned_below.Goals as goal

pub returns : goal.returns
returns g c =
    let rest = c.args.rest.now in
    let directory = c.args.directory.now in
    let joined = c.deref.result.now in
    if_ok (λ mid. IsCleaned style.Windows joined mid.items) (λ mid. IsCleanedBelow rest directory mid.items)
    (λ mid h. record {
      joined = joined;
      join = subst (λ z. IsJoin style.Windows directory rest z) (sym c.deref.ensures.value) c.in_ok-joined.ensures;
      clean = h;
    })
    c.clean.result c.clean.ensures
