use Rattle.platform_str.specs.Strings.{path_bytes, path_vec_of}
use Rattle.test_path_uses.proofs.Both.{with_ok}
use Rattle.test_path_uses.proofs.MainSeparators.{of_form}
use Rattle.test_path_uses.proofs.written.separators_of_form.Goals as goal

pub returns : goal.returns
returns g c =
    with_ok c.in_form.result c.in_form.ensures (λ made h even. of_form c.main_separators.ensures.written c.args.form g.E.PathStyle.follows (path_bytes c.args.path) (path_vec_of made).items h even)
