use Rattle.std.proofs.Common.{◌++◌, refl}
use Rattle.platform_str.specs.Strings.{path_bytes, path_vec_of}
use Rattle.path_building.specs.Join.{replacing, at_root}
use Rattle.test_path_uses.proofs.Both.{with_ok}
use Rattle.test_path_uses.proofs.joined.joined.Goals as goal

pub returns-clause-both : goal.returns-clause-both
returns-clause-both g c =
    with_ok c.join.result c.join.ensures (λ joined h items more some plain relative prefix are more_are.
    c.join_components.ensures.both _ _ _ _ some plain relative h prefix items more are more_are)

pub returns-clause-prefixed : goal.returns-clause-prefixed
returns-clause-prefixed g c = with_ok c.join.result c.join.ensures (λ joined h p. c.one_join.ensures g.E.PathStyle.follows (path_bytes c.args.base) (path_bytes c.args.path) (path_vec_of joined).items (path_bytes c.args.path) h (replacing p refl))

pub returns-clause-at_root : goal.returns-clause-at_root
returns-clause-at_root g c =
    with_ok c.join.result c.join.ensures (λ joined h raw none plain root prefix.
    c.one_join.ensures g.E.PathStyle.follows (path_bytes c.args.base) (path_bytes c.args.path) (path_vec_of joined).items (raw ++ path_bytes c.args.path) h
    (at_root none plain (record { raw = raw; root = root; prefix = prefix; is = refl })))
