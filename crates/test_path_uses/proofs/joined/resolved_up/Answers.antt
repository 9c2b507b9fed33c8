use Rattle.std.proofs.Common.{◌≢◌, [], codes, sym, subst}
use Rattle.path_rules.specs.declared.rules.Style.TheVariants as style
use Rattle.path_rules.specs.Prefix.{IsPrefixed}
use Rattle.platform_str.specs.Strings.{path_vec_of}
use Rattle.path_building.specs.Base.{LacksPart}
use Rattle.path_building.specs.Join.{IsVerbatimPath}
use Rattle.test_path_uses.proofs.Both.{with_ok}
use Rattle.test_path_uses.proofs.VerbatimJoins.{verbatim, whole, bare_path, some_path, resolved_up, these}
use Rattle.test_path_uses.proofs.joined.resolved_up.Goals as goal

pub returns : goal.returns
returns g c =
    with_ok c.resolved.result c.resolved.ensures (λ joined h base path.
    resolved_up c.resolved_components.ensures.one (path_vec_of joined).items (these base path
    (h (subst (IsVerbatimPath style.Windows) (sym base) verbatim) (subst (λ z. ¬ (LacksPart style.Windows z)) (sym base) (whole c.one_list.ensures.prefix))
    (subst (λ z. ¬ (IsPrefixed style.Windows z)) (sym path) bare_path) (subst (λ z. z ≢ []) (sym path) some_path))))
