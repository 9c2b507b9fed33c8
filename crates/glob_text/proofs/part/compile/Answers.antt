use Rattle.std.proofs.Common.{◌++◌, ◌∙◌, ap, map, refl, subst, sym}
use Rattle.wildcards.specs.Groups.{group}
use Rattle.glob_text.specs.Chosen.{marks_at}
use Rattle.glob_text.specs.Marks.{mark_of}
use Rattle.glob_text.specs.Parts.{NextGroup, is_deep}
use Rattle.std.specs.Option.{is_some}
use Rattle.glob_text.specs.PartSteps.{rest_of}
use Rattle.glob_text.proofs.lemmas.Compiled.{joined_is}
use Rattle.wildcards.proofs.lemmas.Items.{one_more}
use Rattle.glob_text.proofs.part.compile.Goals as goal

pub loop-left-preserved : goal.loop-left-preserved
loop-left-preserved g c =
    let marks = map mark_of c.args.marks.now in
    let after = rest_of marks c.in_ok-part.after in
    let deep = is_deep c.args.separators (marks_at marks c.in-Some.text.now) in
    let more = group deep (is_some after) c.in_ok-part.part in
    let items = c.loop-left.pattern.items in
    one_more (NextGroup c.args.separators) _ _ _ more _ _ c.loop-left.invariant
    (subst (λ z. NextGroup c.args.separators (rest_of marks z) more after) (sym c.in-Some.is) (record {
      part = c.in_ok-part.part;
      read = c.in_ok-part.ensures.part;
      pieces_are = refl;
    }))
    (c.in_ok-push_group.ensures.appended
    ∙ ap (λ z. items ++ group z c.is_some.result c.in_ok-part.part) c.is_deep-deep.ensures
    ∙ ap (λ z. items ++ group deep z c.in_ok-part.part) (c.is_some.ensures ∙ joined_is marks c.in_ok-part.after))
