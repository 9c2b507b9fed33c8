use Rattle.std.proofs.Common.{◌∷◌, ◌++◌, ◌∙◌, ap, sym, refl}
use Rattle.path_rules.specs.Heads.{prefix_items, start_items}
use Rattle.path_rules.specs.Component.{RootDir, CurDir, components_in}
use Rattle.path_rules.specs.Views.{item_of}
use Rattle.path_rules.proofs.lemmas.Fields.{empty_from, some_from}
use Rattle.path_rules.proofs.lemmas.Lefts.{taken_first, taken_prefix_as}
use Rattle.path_rules.proofs.lemmas.Tails.{whole_tail}
use Rattle.path_rules.proofs.components.ComponentsIterator.next.Goals as goal

pub invariant_of-self : goal.invariant_of-self
invariant_of-self c =
    let left = c.self.inside.left in
    taken_prefix_as c.self.inside.style c.self.inside.path.now left _ c.self.inside.begun c.self.inside.taken c.self.invariant refl c.is_nothing-self-inside.result c.is_nothing-self-inside.ensures
    (some_from left.prefix.now c.is_empty.result c.if-not-is_empty.true c.is_empty.ensures) c.as_slice-self-inside.ensures refl refl

pub invariant_of-self-in-Root : goal.invariant_of-self-in-Root
invariant_of-self-in-Root c =
    let left = c.self.inside.left in
    let none = empty_from left.prefix.now c.is_empty.result c.if-not-is_empty.false c.is_empty.ensures in
    taken_first c.self.inside.style c.self.inside.path.now left _ c.self.inside.begun c.self.inside.taken c.self.invariant refl none refl (whole_tail left.body.now) RootDir
    (ap (λ x. prefix_items x ++ (start_items left.start ++ components_in left.rules left.body.now)) none ∙ ap (λ x. start_items x ++ components_in left.rules left.body.now) c.in-Root.is ∙ ap (λ x. RootDir ∷ (prefix_items x ++ components_in left.rules left.body.now)) (sym none))

pub invariant_of-self-in-Dot : goal.invariant_of-self-in-Dot
invariant_of-self-in-Dot c =
    let left = c.self.inside.left in
    let none = empty_from left.prefix.now c.is_empty.result c.if-not-is_empty.false c.is_empty.ensures in
    taken_first c.self.inside.style c.self.inside.path.now left _ c.self.inside.begun c.self.inside.taken c.self.invariant refl none refl (whole_tail left.body.now) CurDir
    (ap (λ x. prefix_items x ++ (start_items left.start ++ components_in left.rules left.body.now)) none ∙ ap (λ x. start_items x ++ components_in left.rules left.body.now) c.in-Dot.is ∙ ap (λ x. CurDir ∷ (prefix_items x ++ components_in left.rules left.body.now)) (sym none))

pub invariant_of-self-in-Nothing : goal.invariant_of-self-in-Nothing
invariant_of-self-in-Nothing c =
    let left = c.self.inside.left in
    let none = empty_from left.prefix.now c.is_empty.result c.if-not-is_empty.false c.is_empty.ensures in
    let x = item_of c.in-Some.item in
    let rest = c.in-Some.rest.now in
    taken_first c.self.inside.style c.self.inside.path.now left _ c.self.inside.begun c.self.inside.taken c.self.invariant refl none c.in-Nothing.is c.in-Some.ensures.after x
    (ap (λ y. prefix_items y ++ (start_items left.start ++ components_in left.rules left.body.now)) none ∙ ap (λ y. start_items y ++ components_in left.rules left.body.now) c.in-Nothing.is ∙ c.in-Some.ensures.items
    ∙ ap (λ y. x ∷ (prefix_items y ++ components_in left.rules rest)) (sym none) ∙ ap (λ y. x ∷ (prefix_items left.prefix.now ++ (start_items y ++ components_in left.rules rest))) (sym c.in-Nothing.is))
