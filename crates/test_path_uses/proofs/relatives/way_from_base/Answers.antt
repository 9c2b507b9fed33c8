use Rattle.std.proofs.Common.{subst}
use Rattle.platform_str.specs.Strings.{path_bytes, path_vec_of}
use Rattle.path_building.specs.Join.{IsJoin}
use Rattle.path_building.specs.Relative.{AreOnePlace}
use Rattle.test_path_uses.proofs.relatives.way_from_base.Goals as goal

pub returns-in-Ok : goal.returns-in-Ok
returns-in-Ok g c =
    let w = g.E.PathStyle.follows in
    let base = path_bytes c.args.base in
    let joined = (path_vec_of c.in-Ok.joined).items in
    let way = rw c.in-Ok-Some.field-0-is at c.in-Ok-Some.ensures in
    let same = c.one_join.ensures w base (path_vec_of c.in-Ok-Some.way).items way.1.0 joined way.1.1.0 (subst (λ x. IsJoin w base x joined) c.as_path.ensures c.in-Ok.ensures) in
    subst (λ x. AreOnePlace w x (path_bytes c.args.path)) same way.1.1.1
