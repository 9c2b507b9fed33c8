use Rattle.platform_str.specs.Strings.{path_bytes, path_vec_of}
use Rattle.test_path_uses.proofs.Both.{with_ok}
use Rattle.test_path_uses.proofs.Forms.{one_form}
use Rattle.test_path_uses.proofs.normal_forms.formed.Goals as goal

pub returns : goal.returns
returns g c =
    with_ok c.in_form.result c.in_form.ensures (λ made h other k.
    one_form c.one_list.ensures.items c.normal_forms.ensures.one c.clean_forms.ensures.one c.args.form g.E.PathStyle.follows (path_bytes c.args.path) (path_vec_of made).items other h k)
