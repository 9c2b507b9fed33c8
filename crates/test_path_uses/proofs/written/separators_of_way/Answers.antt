use Rattle.platform_str.specs.Strings.{path_bytes, path_vec_of}
use Rattle.test_path_uses.proofs.Both.{with_ok}
use Rattle.test_path_uses.proofs.MainSeparators.{of_way}
use Rattle.test_path_uses.proofs.written.separators_of_way.Goals as goal

pub returns : goal.returns
returns g c =
    with_ok c.relative_from.result c.relative_from.ensures (λ way h n both. of_way c.main_separators.ensures.way (λ p. (path_vec_of p).items) g.E.PathStyle.follows (path_bytes c.args.path) (path_bytes c.args.base) way h n both)
