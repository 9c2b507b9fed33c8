use Rattle.std.proofs.Common.{◌≡◌, ◌++◌, true, false, map, reverse, sym, ap, ◌∙◌, subst}
use Rattle.path_rules.specs.Views.{item_of}
use Rattle.path_rules.specs.Component.{components_in}
use Rattle.path_building.specs.Resolved.{IsResolved}
use Rattle.path_building.specs.Spelled.{after_bytes, cleaned, kept_names, start_below}
use Rattle.path_building.proofs.lemmas.Forms.{if_ok}
use Rattle.path_building.proofs.lemmas.Resolved.{resolved_path}
use Rattle.path_building.proofs.resolving.resolve.Goals as goal

pub returns : goal.returns
returns g c =
    let base = c.args.base.now in
    let path = c.args.path.now in
    let head = c.head_of-head.result in
    let added = c.head_of-added.result in
    let xs = components_in added.rules added.body.now in
    let names = map item_of c.add_cleaned.new.names.items in
    let first : map item_of c.deref.result.now ≡ names = ap (map item_of) c.deref.ensures.value in
    let second : map item_of c.deref-2.result.now ≡ names = ap (map item_of) c.deref-2.ensures.value in
    let e : reverse names ≡ cleaned true (reverse (kept_names added.start (components_in head.rules head.body.now))) xs =
    c.in_ok-add_cleaned.ensures ∙ ap (λ z. cleaned true (reverse z) xs) (c.in_ok-names.ensures ∙ c.kept_body-kept.ensures head.rules) in
    let is = resolved_path base path head added c.head_of-head.ensures.items c.head_of-head.ensures.parts c.head_of-added.ensures.items c.head_of-added.ensures.parts c.requires.verbatim c.requires.bare names e in
    let all : head.prefix.now ++ after_bytes 0x5C c.start_below-start.result false (map item_of c.deref-2.result.now) ≡ head.prefix.now ++ after_bytes 0x5C (start_below added.start head.start names) false names =
    ap (λ z. head.prefix.now ++ after_bytes 0x5C z false (map item_of c.deref-2.result.now)) (c.start_below-start.ensures ∙ ap (start_below added.start head.start) first)
    ∙ ap (λ z. head.prefix.now ++ after_bytes 0x5C (start_below added.start head.start names) false z) second in
    if_ok (λ z. z.items ≡ head.prefix.now ++ after_bytes 0x5C c.start_below-start.result false (map item_of c.deref-2.result.now)) (λ z. IsResolved base path z.items) c.written.result
    (λ z f. subst (IsResolved base path) (sym (f ∙ all)) is) c.written.ensures
