use Rattle.std.proofs.Common.{◌≡◌, ◌++◌, ◌∷◌, [], true, false, map, sym, ap, ◌∙◌, subst}
use Rattle.path_rules.specs.Heads.{items_of}
use Rattle.path_rules.specs.Views.{item_of}
use Rattle.path_rules.specs.StyleRules.{main_separator}
use Rattle.path_building.specs.Restyled.{AreHad, IsRestyled}
use Rattle.path_building.specs.Spelled.{ObjectNext, after_bytes}
use Rattle.path_rules.proofs.lemmas.OneList.{one_components}
use Rattle.path_building.proofs.lemmas.Forms.{if_ok}
use Rattle.path_building.proofs.lemmas.Restyles.{restyled}
use Rattle.path_building.proofs.styles.restyled.Goals as goal

pub returns : goal.returns
returns g c =
    let from = c.args.from in
    let to = c.args.to in
    let path = c.args.path.now in
    let head = c.head_of-head.result in
    let given = c.requires.had in
    let same : given.0 ≡ items_of head = one_components from path given.0 (items_of head) given.1 c.head_of-head.ensures.items in
    let had = subst (AreHad to true) same given.2 in
    let written = map item_of c.deref-2.result.now in
    let before = c.before_start-before.result.now in
    let none = c.as_slice-none.result.now in
    let names : written ≡ map item_of c.deref.result.now = ap (map item_of) (c.deref-2.ensures.value ∙ sym c.deref.ensures.value) in
    if_ok (λ z. z.items ≡ before ++ after_bytes c.main_separator-separator.result head.start false written) (λ z. IsRestyled from to path z.items) c.written.result
    (λ z made. restyled from to path head c.head_of-head.ensures.items c.head_of-head.ensures.parts had c.requires.unlike written none before z.items c.main_separator-separator.result (ap (map item_of) c.deref-2.ensures.value ∙ c.in_ok-names.ensures) c.as_slice-none.ensures c.main_separator-separator.ensures
    (subst (λ z. ¬ (ObjectNext to none head.start z) → before ≡ none) (sym names) c.before_start-before.ensures.kept)
    (subst (λ z. ObjectNext to none head.start z → before ≡ main_separator to ∷ 0x2E ∷ []) (sym names) c.before_start-before.ensures.apart)
    made c.requires.single)
    c.written.ensures
