use Rattle.std.proofs.Common.{ℕ, List, [], ◌∷◌, ◌++◌, ◌∙◌, ap, sym, subst}
use Rattle.path_rules.specs.Component.{Item}
use Rattle.path_rules.specs.Left.{GoesOn}
use Rattle.os_path.specs.Formed.{IsFormed, AreFormed}
use Rattle.os_path.proofs.components.ComponentsDoubleEndedIterator.next_back.Goals as goal

-- of components with well-formed strings, the last one and those before it
last_apart : (formed : List ℕ → Type 0) (items : List Item) (item : Item) → AreFormed formed (items ++ item ∷ []) → AreFormed formed items × IsFormed formed item
last_apart formed [] item f = (tt, f.0)
last_apart formed (first ∷ others) item f =
    let apart = last_apart formed others item f.1 in
    ((f.0, apart.0), apart.1)

pub formed_component-requires : goal.formed_component-requires
formed_component-requires g c =
    let formed = g.E.Platform.well_formed in
    (last_apart formed _ _ (subst (AreFormed formed) c.in-Some.ensures.steps.0 c.self.invariant.items)).1

pub invariant_of-self-2 : goal.invariant_of-self-2
invariant_of-self-2 g c =
    let formed = g.E.Platform.well_formed in
    let steps = c.in-Some.ensures.steps in
    record {
      path = subst formed (sym steps.1.path) c.self.invariant.path;
      items = (last_apart formed _ _ (subst (AreFormed formed) steps.0 c.self.invariant.items)).0;
    }

pub returns-clause-steps : goal.returns-clause-steps
returns-clause-steps g c =
    let steps = c.in-Some.ensures.steps in
    let new = c.next_back.new.self in (
      ap (λ l. l.items) (sym c.self.view_is) ∙ steps.0 ∙ ap (λ item. new.items ++ item ∷ []) (sym c.formed_component.ensures),
      subst (λ l. GoesOn l new l.taken) c.self.view_is steps.1,
    )
