use Rattle.std.proofs.Common.{[], ◌∷◌, inl, inr, map, sym, ap, subst}
use Rattle.path_rules.specs.declared.rules.Style.TheVariants as style
use Rattle.path_rules.specs.Components.{AreComponents}
use Rattle.path_rules.specs.Views.{item_of}
use Rattle.path_building.specs.Collected.{ArePushed}
use Rattle.path_building.specs.FullPath.{IsRespelled}
use Rattle.path_building.proofs.lemmas.Joins.{if_ok, refuted}
use Rattle.path_building.proofs.full_paths.respelled.Goals as goal

pub returns-then-begins_with_two : goal.returns-then-begins_with_two
returns-then-begins_with_two g c =
    let path = c.args.path.now in
    let two = 0x2F ∷ 0x2F ∷ [] in
    let items = map item_of c.deref.result.now in
    let more = map item_of c.after_root.result.now in
    if_ok (λ mid. ArePushed style.Unix c.as_slice.result.now more mid.items) (λ mid. IsRespelled path mid.items)
    (λ mid h. record {
      items = items;
      are = subst (AreComponents style.Unix path) (sym (ap (map item_of) c.deref.ensures.value)) c.in_ok-items.ensures;
      pushed = inl (c.begins_with_two.ensures.0 c.if-begins_with_two.true, subst (λ z. ArePushed style.Unix two z mid.items) c.after_root.ensures (subst (λ z. ArePushed style.Unix z more mid.items) c.as_slice.ensures h));
    })
    c.pushed.result c.pushed.ensures

pub returns : goal.returns
returns g c =
    let path = c.args.path.now in
    let items = map item_of c.deref-2.result.now in
    if_ok (λ mid. ArePushed style.Unix c.as_slice-2.result.now items mid.items) (λ mid. IsRespelled path mid.items)
    (λ mid h. record {
      items = items;
      are = subst (AreComponents style.Unix path) (sym (ap (map item_of) c.deref-2.ensures.value)) c.in_ok-items.ensures;
      pushed = inr (refuted _ c.begins_with_two.result c.begins_with_two.ensures c.if-begins_with_two.false, subst (λ z. ArePushed style.Unix z items mid.items) c.as_slice-2.ensures h);
    })
    c.pushed-2.result c.pushed-2.ensures
