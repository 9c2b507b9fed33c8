use Rattle.std.proofs.Common.{ap, map, subst}
use Rattle.glob_text.specs.Chosen.{choices_of, marks_at}
use Rattle.glob_text.specs.Marks.{mark_of}
use Rattle.glob_text.specs.Parts.{IsCompiled}
use Rattle.glob_text.proofs.lemmas.Compiled.{CompiledSoFar, one_more_compiled}
use Rattle.glob_text.proofs.part.compile_each.Goals as goal

pub loop-choice-preserved : goal.loop-choice-preserved
loop-choice-preserved g c =
    let marks = map mark_of c.args.marks.now in
    one_more_compiled c.args.separators _ _ (marks_at marks c.in-Some.choice.now.marks.items) _ (record { pieces = c.in_ok-pieces.pieces }) _
    (subst (λ z. CompiledSoFar c.args.separators (choices_of marks c.args.choices.now) c.loop-choice.compiled.items z) (ap (choices_of marks) c.in-Some.ensures.cases.0) c.loop-choice.invariant)
    (subst (λ z. IsCompiled c.args.separators (marks_at marks z) c.in_ok-pieces.pieces.items) c.deref.ensures.value c.in_ok-pieces.ensures)
    c.in_ok-push.ensures.items
