use Rattle.std.proofs.Common.{◌≡◌, [], map, ap, ◌∙◌, subst}
use Rattle.path_rules.specs.declared.rules.Style.TheVariants.{Unix}
use Rattle.path_building.specs.Collected.{ArePushed}
use Rattle.platform_str.specs.Strings.{path_bytes, path_vec_of}
use Rattle.os_path.specs.Views.{os_item_of}
use Rattle.test_path_uses.proofs.Both.{with_ok}
use Rattle.test_path_uses.proofs.collected.collected.Goals as goal

pub returns : goal.returns
returns g c =
    let path = path_bytes c.args.path in
    let parts = map os_item_of c.deref.result.now in
    let own : parts ≡ c.components.result.items = ap (map os_item_of) c.deref.ensures.value ∙ c.in_ok-parts.ensures in
    with_ok c.from_components.result c.from_components.ensures (λ made h items are.
    c.collected.ensures path items (path_vec_of made).items are (subst (λ z. ArePushed Unix [] z (path_vec_of made).items) (own ∙ c.one_list.ensures.items Unix path c.components.result.items items c.components.ensures.items are) h))
