use Rattle.platform_str.specs.Strings.{path_bytes, path_vec_of}
use Rattle.test_path_uses.proofs.Both.{with_on_ok}
use Rattle.test_path_uses.proofs.changed.pushed.Goals as goal

pub returns-clause-joined : goal.returns-clause-joined
returns-clause-joined g c =
    with_on_ok c.push.result c.push.ensures.ok (λ h joined k.
    c.one_join.ensures g.E.PathStyle.follows (path_vec_of c.args.path.now).items (path_bytes c.args.more) (path_vec_of c.push.new.path).items joined h k)

pub returns-clause-kept : goal.returns-clause-kept
returns-clause-kept g c = c.push.ensures.err
