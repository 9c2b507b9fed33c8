use Rattle.std.proofs.Common.{◌≡◌, ◌∷◌, [], codes, sym, subst}
use Rattle.path_rules.specs.declared.rules.Style.{Style}
use Rattle.path_rules.specs.declared.rules.Style.TheVariants as style
use Rattle.path_rules.specs.Component.{RootDir, Normal}
use Rattle.path_rules.specs.Components.{AreComponents}
use Rattle.platform_str.specs.Strings.{path_bytes, path_vec_of}
use Rattle.test_path_uses.proofs.Both.{with_ok}
use Rattle.test_path_uses.proofs.OtherStyle.{written_anew}
use Rattle.test_path_uses.proofs.Writings.{one_writing, unix_are, restyled_written}
use Rattle.test_path_uses.proofs.written.slashes_on_windows.Goals as goal

pub returns : goal.returns
returns g c =
    with_ok c.with_style.result c.with_style.ensures.ok (λ made h e.
    let items = RootDir ∷ Normal (codes "a") ∷ Normal (codes "b") ∷ [] in
    let is = written_anew c.one_list.ensures.items style.Unix style.Windows (path_bytes c.args.path) (path_vec_of made).items h items (λ same. let never : ◌≡◌ {A = Style} style.Unix style.Windows = same in cc) (subst (λ s. AreComponents style.Unix s items) (sym e) unix_are) in
    one_writing style.Windows items (path_vec_of made).items (codes "\\a\\b") is restyled_written)
