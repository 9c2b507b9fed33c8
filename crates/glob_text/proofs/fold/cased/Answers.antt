use Rattle.std.proofs.Common.{true, map, ◌∷◌, ◌++◌, [], ◌∙◌, sym, subst, ap}
use Rattle.std.proofs.lemmas.List.{map-append}
use Rattle.glob_text.specs.Marks.{mark_of}
use Rattle.glob_text.specs.Folded.{AreCased}
use Rattle.glob_text.proofs.lemmas.Folding.{more_cased}
use Rattle.glob_text.proofs.fold.cased.Goals as goal

pub loop-mark-preserved : goal.loop-mark-preserved
loop-mark-preserved g c =
    let mark = c.in-Some.mark in
    let folded = c.in_ok-fold_mark.field-0 in
    subst (AreCased true (map mark_of (c.loop-mark.yielded ++ mark ∷ [])))
    (sym (ap (map mark_of) c.in_ok-push.ensures.items ∙ map-append mark_of c.loop-mark.folded.items (folded ∷ [])))
    (subst (λ z. AreCased true z (map mark_of c.loop-mark.folded.items ++ mark_of folded ∷ [])) (sym (map-append mark_of c.loop-mark.yielded (mark ∷ [])))
    (more_cased (map mark_of c.loop-mark.yielded) (map mark_of c.loop-mark.folded.items) (mark_of mark) (mark_of folded) c.loop-mark.invariant c.in_ok-fold_mark.ensures))
