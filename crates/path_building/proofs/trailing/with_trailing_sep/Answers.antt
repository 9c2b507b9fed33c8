use Rattle.std.proofs.Common.{subst}
use Rattle.path_building.specs.Join.{IsJoin}
use Rattle.path_building.specs.Trailing.{IsWithTrailingSep}
use Rattle.path_building.proofs.lemmas.Joins.{if_ok}
use Rattle.path_building.proofs.lemmas.Trailing.{from_join}
use Rattle.path_building.proofs.trailing.with_trailing_sep.Goals as goal

pub returns : goal.returns
returns g c =
    let w = c.args.style in
    let path = c.args.path.now in
    if_ok (λ v. IsJoin w path c.as_slice.result.now v.items) (λ v. IsWithTrailingSep w path v.items) (λ v h. from_join w path v.items (subst (λ x. IsJoin w path x v.items) c.as_slice.ensures h)) c.join.result c.join.ensures
