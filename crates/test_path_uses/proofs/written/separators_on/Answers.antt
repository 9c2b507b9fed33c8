use Rattle.platform_str.specs.Strings.{path_bytes, path_vec_of}
use Rattle.test_path_uses.proofs.Both.{with_ok}
use Rattle.test_path_uses.proofs.MainSeparators.{of_restyled}
use Rattle.test_path_uses.proofs.written.separators_on.Goals as goal

pub returns : goal.returns
returns g c =
    with_ok c.with_style.result c.with_style.ensures.ok (λ made h other. of_restyled c.main_separators.ensures.written g.E.PathStyle.follows g.F.PathStyle.follows (path_bytes c.args.path) (path_vec_of made).items h other)
