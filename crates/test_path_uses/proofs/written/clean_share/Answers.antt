use Rattle.std.proofs.Common.{codes, sym, subst}
use Rattle.path_rules.specs.declared.rules.Style.TheVariants as style
use Rattle.path_building.specs.Cleaned.{IsCleaned}
use Rattle.test_path_uses.proofs.Both.{with_ok}
use Rattle.test_path_uses.proofs.Writings.{share_form}
use Rattle.test_path_uses.proofs.written.clean_share.Goals as goal

pub returns : goal.returns
returns g c =
    with_ok c.formed.result c.formed.ensures (λ made h e.
    h (codes "\\\\s\\h\\x") (subst (λ s. IsCleaned style.Windows s (codes "\\\\s\\h\\x")) (sym e) (share_form c.one_list.ensures.prefix)))
