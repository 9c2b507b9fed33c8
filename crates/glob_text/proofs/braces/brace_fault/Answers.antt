use Rattle.std.proofs.Common.{◌∷◌, ◌∙◌, ap, arith, length, map, refl, subst}
use Rattle.glob_text.specs.Marks.{mark_of}
use Rattle.glob_text.proofs.lemmas.Braces.{Looked, depth_grows, one_more_mark, unopened}
use Rattle.glob_text.proofs.braces.brace_fault.Goals as goal

pub returns-in-Unopened : goal.returns-in-Unopened
returns-in-Unopened g c =
    let left = map mark_of c.loop-mark.left.now in
    let rest = map mark_of c.in-Some.rest.now in
    unopened (map mark_of c.args.marks.now) left c.in-Unopened.index rest c.loop-mark.outermost _
    (subst (λ z. Looked (map mark_of c.args.marks.now) left z c.loop-mark.outermost) c.in-Unopened.ensures.1 c.loop-mark.invariant.0)
    (ap (map mark_of) c.in-Some.ensures.cases.0 ∙ ap (λ z. z ∷ rest) c.in-Unopened.ensures.0) refl

pub loop-mark-preserved : goal.loop-mark-preserved
loop-mark-preserved g c = (
  one_more_mark (map mark_of c.args.marks.now) _ (mark_of c.in-Some.mark.now) (map mark_of c.in-Some.rest.now) _ _ _ _ c.loop-mark.invariant.0
      (ap (map mark_of) c.in-Some.ensures.cases.0) c.in-Open.ensures.0 c.in-Open.ensures.1,
  let h = c.loop-mark.invariant.1 in
      let k = depth_grows (mark_of c.in-Some.mark.now) _ _ c.in-Open.ensures.0 in
      let e = ap length c.in-Some.ensures.cases.0 in
      omega (arith, h, k, e),
)
