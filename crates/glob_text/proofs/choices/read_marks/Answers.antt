use Rattle.std.proofs.Common.{◌∷◌, [], ◌++◌, ◌∙◌, ap, map, refl, reverse, sym}
use Rattle.std.proofs.lemmas.List.{length-map, map-append, nil_from_length}
use Rattle.glob_text.specs.declared.choices.Node.TheVariants.{End}
use Rattle.glob_text.specs.Marks.{mark_of}
use Rattle.glob_text.specs.Nodes.{drawing_of}
use Rattle.glob_text.proofs.lemmas.Nodes.{all_read, none_read, one_read}
use Rattle.glob_text.proofs.choices.read_marks.Goals as goal

pub loop-mark-init : goal.loop-mark-init
loop-mark-init g c =
    none_read (map mark_of c.args.marks.now) _ (c.in_ok-push.ensures.items ∙ ap (λ z. z ++ End ∷ []) c.in_ok-nodes.ensures.items) (ap reverse c.new.ensures.items) refl c.nothing.ensures

pub loop-mark-preserved : goal.loop-mark-preserved
loop-mark-preserved g c =
    one_read (map mark_of c.args.marks.now) (map mark_of c.loop-mark.left.now) (map mark_of c.in-Some.before.now) (mark_of c.in-Some.mark.now) _ _ _ c.loop-mark.invariant
    (ap (map mark_of) c.in-Some.ensures.cases.0 ∙ map-append mark_of c.in-Some.before.now (c.in-Some.mark.now ∷ []))
    (sym (length-map c.in-Some.before.now mark_of)) c.in_ok-add.ensures

pub returns : goal.returns
returns g c =
    all_read (map mark_of c.args.marks.now) (map mark_of c.loop-mark.left.now) (drawing_of c.loop-mark.drawing) c.loop-mark.invariant (ap (map mark_of) (nil_from_length _ c.in_default.ensures.cases))
