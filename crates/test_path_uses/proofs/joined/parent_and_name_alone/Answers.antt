use Rattle.std.proofs.Common.{subst}
use Rattle.path_building.specs.Join.{IsJoin}
use Rattle.platform_str.specs.Strings.{path_bytes, path_vec_of}
use Rattle.test_path_uses.proofs.joined.parent_and_name_alone.Goals as goal

pub returns-in-Ok : goal.returns-in-Ok
returns-in-Ok g c = λ alone some plain relative prefix items are.
    c.parent_joined.ensures.alone _ _ _ _ _ c.in-Some.ensures c.in-Some-file_name.ensures alone some plain relative
    (subst (λ name. IsJoin g.E.PathStyle.follows (path_bytes c.in-Some.parent) name (path_vec_of c.in-Ok.joined).items) c.new.ensures c.in-Ok.ensures) prefix items are
