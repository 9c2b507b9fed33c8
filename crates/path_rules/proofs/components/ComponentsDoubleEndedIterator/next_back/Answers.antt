use Rattle.std.proofs.Common.{◌≡◌, ◌∙◌, ap, sym, refl}
use Rattle.path_rules.specs.declared.head.Start.TheVariants.{Root, Dot, Nothing}
use Rattle.path_rules.specs.Heads.{start_items}
use Rattle.path_rules.specs.Component.{RootDir, CurDir}
use Rattle.path_rules.specs.Views.{item_of}
use Rattle.path_rules.proofs.lemmas.Fields.{some_from}
use Rattle.path_rules.proofs.lemmas.Lefts.{taken_last, taken_start, taken_only}
use Rattle.path_rules.proofs.components.ComponentsDoubleEndedIterator.next_back.Goals as goal

pub invariant_of-self : goal.invariant_of-self
invariant_of-self c =
    taken_last c.self.inside.style c.self.inside.path.now c.self.inside.left _ c.self.inside.begun c.self.inside.taken c.self.invariant refl refl refl c.in-Some.ensures.before (item_of c.in-Some.item) c.in-Some.ensures.items

pub invariant_of-self-in-Root : goal.invariant_of-self-in-Root
invariant_of-self-in-Root c =
    taken_start c.self.inside.style c.self.inside.path.now c.self.inside.left _ c.self.inside.begun c.self.inside.taken c.self.invariant refl (λ z. let never : Root ≡ Nothing = sym c.in-Root.is ∙ z in cc) refl refl c.as_slice-self-inside.ensures RootDir
    c.in_default.ensures.items (ap start_items c.in-Root.is)

pub invariant_of-self-in-Dot : goal.invariant_of-self-in-Dot
invariant_of-self-in-Dot c =
    taken_start c.self.inside.style c.self.inside.path.now c.self.inside.left _ c.self.inside.begun c.self.inside.taken c.self.invariant refl (λ z. let never : Dot ≡ Nothing = sym c.in-Dot.is ∙ z in cc) refl refl c.as_slice-self-inside-in-Dot.ensures CurDir
    c.in_default.ensures.items (ap start_items c.in-Dot.is)

pub invariant_of-self-in-Nothing : goal.invariant_of-self-in-Nothing
invariant_of-self-in-Nothing c =
    let left = c.self.inside.left in
    taken_only c.self.inside.style c.self.inside.path.now left _ c.self.inside.begun c.self.inside.taken c.self.invariant refl c.as_slice-self-inside-in-Nothing.ensures c.in-Nothing.is c.as_slice-self-inside-in-Nothing-2.ensures
    (some_from left.prefix.now c.is_empty.result c.if-is_empty.false c.is_empty.ensures) c.in-Nothing.is c.in_default.ensures.items
