use Rattle.platform_str.specs.Strings.{path_bytes, path_vec_of}
use Rattle.test_path_uses.proofs.Both.{with_ok}
use Rattle.test_path_uses.proofs.path_ends.ended.Goals as goal

pub returns-clause-ends : goal.returns-clause-ends
returns-clause-ends g c =
    with_ok c.with_trailing_sep.result c.with_trailing_sep.ensures (λ x h some drive.
    c.trailing_separators.ensures.ends g.E.PathStyle.follows (path_bytes c.args.path) (path_vec_of x).items h some drive)

pub returns-clause-kept : goal.returns-clause-kept
returns-clause-kept g c =
    with_ok c.with_trailing_sep.result c.with_trailing_sep.ensures (λ x h k.
    c.trailing_separators.ensures.kept g.E.PathStyle.follows (path_bytes c.args.path) (path_vec_of x).items h k)

pub returns-clause-items : goal.returns-clause-items
returns-clause-items g c =
    with_ok c.with_trailing_sep.result c.with_trailing_sep.ensures (λ x h same v items a.
    c.trailing_separators.ensures.items g.E.PathStyle.follows (path_bytes c.args.path) (path_vec_of x).items h same v items a)
