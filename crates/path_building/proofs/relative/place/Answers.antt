use Rattle.std.proofs.Common.{◌≡◌, ◌++◌, map, ap, ◌∙◌}
use Rattle.path_rules.specs.Heads.{prefix_items}
use Rattle.path_building.specs.Spelled.{cleaned_start}
use Rattle.path_rules.specs.Views.{item_of}
use Rattle.path_building.proofs.lemmas.Places.{place_is}
use Rattle.path_building.proofs.relative.place.Goals as goal

pub returns : goal.returns
returns g c =
    let head = c.head_of-head.result in
    let names = map item_of c.in_ok-names.names.items in
    let top = prefix_items head.prefix.now ++ cleaned_start head.start in
    let first : map item_of c.add_top.new.items.items ≡ top = c.in_ok-add_top.ensures ∙ ap (λ z. map item_of z ++ top) c.new-items.ensures.items in
    let all : map item_of c.add_names.new.names.items ≡ top ++ names = c.in_ok-add_names.ensures ∙ ap (λ z. z ++ map item_of c.deref.result.now) first ∙ ap (λ z. top ++ map item_of z) c.deref.ensures.value in
    place_is c.args.style c.args.path.now head c.head_of-head.ensures.items c.head_of-head.ensures.parts c.is_root.result c.is_root.ensures.0 c.is_root.ensures.1 names c.in_ok-names.ensures (map item_of c.add_names.new.names.items) all
