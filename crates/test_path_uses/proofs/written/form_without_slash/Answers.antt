use Rattle.platform_str.specs.Strings.{path_vec_of}
use Rattle.test_path_uses.proofs.Both.{with_ok}
use Rattle.test_path_uses.proofs.MainSeparators.{without_slash}
use Rattle.test_path_uses.proofs.written.form_without_slash.Goals as goal

pub returns : goal.returns
returns g c =
    with_ok c.separators_of_form.result c.separators_of_form.ensures (λ made h even. without_slash (path_vec_of made).items (h even))
