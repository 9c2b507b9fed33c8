use Rattle.std.proofs.Common.{map, sym, ap, subst}
use Rattle.path_rules.specs.declared.rules.Style.TheVariants as style
use Rattle.path_rules.specs.Components.{AreComponents}
use Rattle.path_rules.specs.Views.{item_of}
use Rattle.path_building.specs.Collected.{ArePushed}
use Rattle.path_building.specs.FullPath.{IsPushedBelow}
use Rattle.path_building.proofs.lemmas.Joins.{if_ok}
use Rattle.path_building.proofs.full_paths.pushed_below.Goals as goal

pub returns : goal.returns
returns g c =
    let path = c.args.path.now in
    let directory = c.args.directory.now in
    if_ok (λ mid. ArePushed style.Unix directory (map item_of c.after_dot.result.now) mid.items) (λ mid. IsPushedBelow path directory mid.items)
    (λ mid h. record {
      items = map item_of c.deref.result.now;
      are = subst (AreComponents style.Unix path) (sym (ap (map item_of) c.deref.ensures.value)) c.in_ok-items.ensures;
      pushed = subst (λ z. ArePushed style.Unix directory z mid.items) c.after_dot.ensures h;
    })
    c.pushed.result c.pushed.ensures
