use Rattle.std.proofs.Common.{subst}
use Rattle.platform_str.specs.Strings.{path_bytes, path_vec_of}
use Rattle.test_path_uses.specs.Forms.{IsForm}
use Rattle.test_path_uses.proofs.Forms.{one_form, own_form}
use Rattle.test_path_uses.proofs.normal_forms.formed_twice.Goals as goal

pub returns : goal.returns
returns g c =
    let w = g.E.PathStyle.follows in
    let once = (path_vec_of c.in_ok-once.once).items in
    let twice = (path_vec_of c.in_ok-twice.twice).items in
    one_form c.one_list.ensures.items c.normal_forms.ensures.one c.clean_forms.ensures.one c.args.form w once twice once
    (subst (λ s. IsForm c.args.form w s twice) c.as_path.ensures c.in_ok-twice.ensures)
    (own_form c.normalized_again.ensures c.cleaned_again.ensures c.args.form w (path_bytes c.args.path) once c.in_ok-once.ensures)
