use Rattle.std.proofs.Common.{sym, subst, map, ◌∷◌, [], ◌∙◌, ap}
use Rattle.std.proofs.lemmas.List.{map-append}
use Rattle.glob_text.specs.Marks.{IsMark, IsFaultHere, mark_of}
use Rattle.wildcards.specs.Items.{Reads}
use Rattle.wildcards.proofs.lemmas.Items.{more_items}
use Rattle.glob_text.proofs.mark.marks.Goals as goal

pub loop-first-preserved : goal.loop-first-preserved
loop-first-preserved g c =
    let mark = rw c.in-Ok.is at c.in_ok-mark.ensures.mark in
    let here = subst (λ z. IsMark c.args.syntax z (mark_of c.in-Ok.mark) c.in-Ok.after.now) (sym c.in-Some.ensures.cases.0) mark in
    subst (λ z. Reads (IsMark c.args.syntax) c.args.text.now z c.in-Ok.after.now)
    (sym (ap (map mark_of) c.in_ok-push-in-Ok.ensures.items ∙ map-append mark_of c.loop-first.marks.items (c.in-Ok.mark ∷ [])))
    (more_items (IsMark c.args.syntax) _ _ _ _ _ c.loop-first.invariant here)

pub returns-in-Err : goal.returns-in-Err
returns-in-Err g c =
    let broken = rw c.in-Err.is at c.in_ok-mark.ensures.mark in
    record {
      marks = map mark_of c.loop-first.marks.items;
      left = c.loop-first.left.now;
      read = c.loop-first.invariant;
      here = subst (λ z. IsFaultHere c.args.syntax z c.in-Err.fault) (sym c.in-Some.ensures.cases.0) broken;
    }
