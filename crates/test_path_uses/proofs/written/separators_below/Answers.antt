use Rattle.platform_str.specs.Strings.{path_bytes, path_vec_of}
use Rattle.test_path_uses.proofs.Both.{with_ok}
use Rattle.test_path_uses.proofs.MainSeparators.{of_joined}
use Rattle.test_path_uses.proofs.written.separators_below.Goals as goal

pub returns : goal.returns
returns g c =
    with_ok c.join_checked.result c.join_checked.ensures.ok (λ joined h. of_joined c.main_separators.ensures.written g.E.PathStyle.follows (path_bytes c.args.base) (path_bytes c.args.path) (path_vec_of joined).items h)
