use Rattle.std.proofs.Common.{◌≡◌, ◌+◌, ◌++◌, [], length, length-append, ap, ◌∙◌, arith}
use Rattle.std.specs.Prelude.{codes}
use Rattle.platform_str.proofs.lemmas.InlineTexts.{of_writes}
use Rattle.program_frame.specs.Ended.{message}
use Rattle.program_frame.proofs.reporting.message.Goals as goal

pub returns-then-as_str-around-clause-message : goal.returns-then-as_str-around-clause-message
returns-then-as_str-around-clause-message g c =
    let written = rw (g.met.F.ProgramFault.printed c.args.fault.now) at c.in-Ok.ensures.writes in
    of_writes _ _ _ c.new-text.ensures.intact c.new-text.ensures.text written

pub returns-then-as_str-around-clause-silent : goal.returns-then-as_str-around-clause-silent
returns-then-as_str-around-clause-silent g c = λ none.
    let written = rw (g.met.F.ProgramFault.printed c.args.fault.now) at c.in-Ok.ensures.writes in
    let is = of_writes _ _ _ c.new-text.ensures.intact c.new-text.ensures.text written in
    let program = c.args.program.now in
    let size = ap length (c.as_str.ensures.value ∙ is ∙ ap (message program) none) in
    let around : length (message program []) ≡ length program + 3 = length-append program (codes ": \n") in
    absurd (omega (arith, size, around, c.if-as_str-around.true))
