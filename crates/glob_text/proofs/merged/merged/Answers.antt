use Rattle.std.proofs.Common.{◌∷◌, [], ◌∙◌, ap, map, subst, sym}
use Rattle.std.proofs.lemmas.List.{map-append}
use Rattle.glob_text.specs.Marks.{mark_of}
use Rattle.glob_text.specs.Merged.{IsMergedMark}
use Rattle.wildcards.specs.Items.{Reads}
use Rattle.wildcards.proofs.lemmas.Items.{more_items}
use Rattle.glob_text.proofs.merged.merged.Goals as goal

pub loop-first-preserved : goal.loop-first-preserved
loop-first-preserved g c =
    let o = c.args.separators in
    let after = map mark_of c.in_ok-mark.after.now in
    let here = subst (λ z. IsMergedMark o z (mark_of c.in_ok-mark.mark) after) (sym (ap (map mark_of) c.in-Some.ensures.cases.0)) c.in_ok-mark.ensures.merged in
    subst (λ z. Reads (IsMergedMark o) (map mark_of c.args.marks.now) z after)
    (sym (ap (map mark_of) c.in_ok-push.ensures.items ∙ map-append mark_of c.loop-first.merged.items (c.in_ok-mark.mark ∷ [])))
    (more_items (IsMergedMark o) _ _ _ _ _ c.loop-first.invariant here)
