use Rattle.std.proofs.Common.{◌∷◌, ◌++◌, [], codes, sym, subst}
use Rattle.path_rules.specs.declared.rules.Style.TheVariants as style
use Rattle.path_rules.specs.Component.{Prefix, RootDir, Normal}
use Rattle.path_rules.specs.Components.{AreComponents}
use Rattle.platform_str.specs.Strings.{path_bytes, path_vec_of}
use Rattle.test_path_uses.proofs.Both.{with_ok}
use Rattle.test_path_uses.proofs.Checks.{names_follow}
use Rattle.test_path_uses.proofs.Writings.{one_writing, base_are, below_written}
use Rattle.test_path_uses.proofs.written.below_slashes.Goals as goal

pub returns : goal.returns
returns g c =
    with_ok c.join_checked.result c.join_checked.ensures.ok (λ joined h e names.
    let base = Prefix (codes "C:") ∷ RootDir ∷ Normal (codes "a") ∷ [] in
    let more = Normal (codes "b") ∷ Normal (codes "c") ∷ [] in
    let is = names_follow c.one_list.ensures.items c.normal_forms.ensures.one style.Windows (path_bytes c.args.base) (path_bytes c.args.path) (path_vec_of joined).items h base more (subst (λ s. AreComponents style.Windows s base) (sym e) base_are) names in
    one_writing style.Windows (base ++ more) (path_vec_of joined).items (codes "C:\\a\\b\\c") is.1 below_written)
