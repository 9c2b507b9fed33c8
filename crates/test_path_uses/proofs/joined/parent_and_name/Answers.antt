use Rattle.std.proofs.Common.{subst}
use Rattle.path_rules.specs.declared.rules.Style.TheVariants.{Unix}
use Rattle.path_building.specs.Join.{IsJoin}
use Rattle.platform_str.specs.Strings.{path_bytes, path_vec_of}
use Rattle.test_path_uses.proofs.joined.parent_and_name.Goals as goal

pub returns-in-Ok : goal.returns-in-Ok
returns-in-Ok g c = λ items are.
    c.parent_joined.ensures.unix _ _ _ _ c.in-Some.ensures c.in-Some-file_name.ensures
    (subst (λ name. IsJoin Unix (path_bytes c.in-Some.parent) name (path_vec_of c.in-Ok.joined).items) c.new.ensures c.in-Ok.ensures) items are
