use Rattle.std.proofs.Common.{◌∷◌, ◌++◌, ◌∙◌, ap, sym, subst}
use Rattle.std.proofs.lemmas.Bool.{eqb-true}
use Rattle.std.proofs.lemmas.List.{nil_from_length}
use Rattle.std.proofs.lemmas.Result.{IfOk-weaker}
use Rattle.wildcards.specs.Keys.{IsNeeded}
use Rattle.wildcards.proofs.lemmas.Keys.{name_needed, component_needed, some_weaker}
use Rattle.wildcards.proofs.key.component_key.Goals.{then-is_empty, else-is_empty}
use Rattle.wildcards.proofs.key.component_key.Goals as goal

pub returns : goal.returns
returns g c =
    let one = c.in-Some-One-default in
    let o = c.args.options in
    let pieces = c.args.pieces.now in
    let before = c.split_at.result.0.now in
    let after = one.after.now in
    let parts = c.split_at.ensures.by_index.0 ∙ ap (λ z. before ++ z) (one.ensures.cases.0 ∙ ap (λ t. t ∷ after) one.field-0-0-is) in
    IfOk-weaker c.part_key.result _ _
    (λ found all. some_weaker _ _ found
    (λ key is. subst (λ k. IsNeeded o pieces k key.size key.text.items) (sym is.0)
    (elim c.if-is_empty.branch [
      | then-is_empty w ↦ subst (λ k. IsNeeded o pieces k key.size key.text.items) (sym w.kind-is) (name_needed o pieces before after one.part parts key.size key.text.items is.1 (nil_from_length _ (eqb-true _ _ (sym c.is_empty.ensures ∙ w.if-is_empty.true))))
      | else-is_empty w ↦ subst (λ k. IsNeeded o pieces k key.size key.text.items) (sym w.kind-is) (component_needed o pieces before after one.part parts key.size key.text.items is.1 c.requires)
    ]))
    all)
    c.part_key.ensures
