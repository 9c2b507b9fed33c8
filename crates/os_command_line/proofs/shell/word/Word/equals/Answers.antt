use Rattle.std.proofs.Common.{◌∷◌, ◌++◌, ◌∙◌, [], ap, sym}
use Rattle.os_command_line.proofs.lemmas.WindowsUnits.{never_equal, not_first, both_more}
use Rattle.os_command_line.proofs.shell.word.Word.equals.Goals as goal

pub returns-then-byte-wanted : goal.returns-then-byte-wanted
returns-then-byte-wanted c =
    let so_far = c.loop-byte.invariant in
    never_equal _ _ so_far.0 _ _ so_far.1 so_far.2 (not_first _ _ c.in-Some.byte c.in-Some-split_first.wanted.now _ _ c.in-Some.ensures.steps c.in-Some-split_first.ensures.cases.0 c.if-byte-wanted.true)

pub loop-byte-preserved : goal.loop-byte-preserved
loop-byte-preserved c =
    let so_far = c.loop-byte.invariant in
    let b = c.in-Some.byte in (
      so_far.0 ++ b ∷ [],
      both_more _ so_far.0 _ b _ so_far.1 c.in-Some.ensures.steps,
      both_more _ so_far.0 _ b _ so_far.2 (c.in-Some-split_first.ensures.cases.0 ∙ ap (λ x. x ∷ c.in-Some-split_first.after.now) (sym c.if-byte-wanted.false)),
    )
