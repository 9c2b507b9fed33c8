use Rattle.std.proofs.Common.{codes, sym, subst}
use Rattle.path_rules.specs.declared.rules.Style.TheVariants as style
use Rattle.test_path_uses.specs.Forms.{IsForm}
use Rattle.test_path_uses.proofs.Both.{with_ok}
use Rattle.test_path_uses.proofs.Forms.{form_of_object}
use Rattle.test_path_uses.proofs.written.form_of_object.Goals as goal

pub returns : goal.returns
returns g c =
    with_ok c.formed.result c.formed.ensures (λ made h e.
    h (codes "\\.\\??\\c:\\x") (subst (λ s. IsForm c.args.form style.Windows s (codes "\\.\\??\\c:\\x")) (sym e) (form_of_object c.args.form)))
