use Rattle.std.proofs.Common.{codes, sym, subst}
use Rattle.path_rules.specs.declared.rules.Style.TheVariants as style
use Rattle.platform_str.specs.Strings.{path_vec_of}
use Rattle.test_path_uses.specs.Forms.{IsForm}
use Rattle.test_path_uses.proofs.Both.{with_ok}
use Rattle.test_path_uses.proofs.Forms.{form_of_slashes}
use Rattle.test_path_uses.proofs.written.form_of_slashes.Goals as goal

pub returns : goal.returns
returns g c =
    with_ok c.formed.result c.formed.ensures (λ made h e.
    h (codes "C:\\b") (subst (λ s. IsForm c.args.form style.Windows s (codes "C:\\b")) (sym e) (form_of_slashes c.args.form)))
