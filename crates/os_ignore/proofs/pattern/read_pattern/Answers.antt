use Rattle.std.proofs.Common.{sym, ap, subst, refl, ◌∙◌, ◌++◌}
use Rattle.os_ignore.specs.PatternText.{IsPart, NextGroup, text_of, is_deep, is_joined}
use Rattle.wildcards.specs.Groups.{group}
use Rattle.wildcards.proofs.lemmas.Items.{one_more}
use Rattle.os_ignore.proofs.pattern.read_pattern.Goals as goal

pub loop-left-preserved : goal.loop-left-preserved
loop-left-preserved g c =
    let read = rw c.in-Some-2.is at c.in_ok-pieces.ensures.part in
    let items = c.loop-left.pattern.items in
    let part = c.in_ok-part.part in
    let more = group (is_deep part.pieces.items) (is_joined c.in-Some-2.after) part in
    let here = subst (λ z. NextGroup c.args.folds z more (text_of c.left-left.result)) (sym (ap text_of c.in-Some.is)) (record {
      part = part;
      after = c.in-Some-2.after;
      read = subst (λ z. IsPart c.args.folds c.in-Some.text.now z.items c.in-Some-2.after) (sym c.in_ok-part.ensures) read;
      pieces_are = refl;
      left_is = ap text_of c.left-left.ensures;
    }) in
    let deep = c.is_deep-deep.ensures ∙ ap is_deep c.deref.ensures.value ∙ ap (λ z. is_deep z.items) (sym c.in_ok-part.ensures) in
    one_more (NextGroup c.args.folds) _ _ _ more _ _ c.loop-left.invariant here (c.in_ok-push_group.ensures.appended
    ∙ ap (λ z. items ++ group z c.is_joined.result part) deep
    ∙ ap (λ z. items ++ group (is_deep part.pieces.items) z part) c.is_joined.ensures)
