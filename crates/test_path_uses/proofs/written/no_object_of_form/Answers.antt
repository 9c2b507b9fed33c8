use Rattle.platform_str.specs.Strings.{path_bytes, path_vec_of}
use Rattle.test_path_uses.proofs.Both.{with_ok}
use Rattle.test_path_uses.proofs.MainSeparators.{form_no_object}
use Rattle.test_path_uses.proofs.written.no_object_of_form.Goals as goal

pub returns : goal.returns
returns g c =
    with_ok c.in_form.result c.in_form.ensures (λ made h. form_no_object c.no_object_form.ensures.normal c.no_object_form.ensures.clean c.args.form (path_bytes c.args.path) (path_vec_of made).items h)
