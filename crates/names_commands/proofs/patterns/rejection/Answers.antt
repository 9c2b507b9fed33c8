use Rattle.std.proofs.Common.{inr, drop, ap, subst}
use Rattle.std.specs.Fmt.InlineText.{inline_text}
use Rattle.list_programs.specs.declared.program_fault.Fault.TheVariants.{Words}
use Rattle.names_commands.specs.Caret.{IsPointed}
use Rattle.names_commands.specs.declared.fault.CommandFault.TheVariants.{Pattern}
use Rattle.names_commands.proofs.patterns.rejection.Goals as goal

pub returns-in-Ok : goal.returns-in-Ok
returns-in-Ok g c =
    let lines = c.in-Ok.lines in
    let shown = c.typed_fault-shown.ensures in
    let here = subst (λ pattern. IsPointed pattern c.typed_fault-shown.result.index (inline_text lines)) c.typed.ensures c.in-Ok.ensures in
    inr (lines, subst (λ fault. IsPointed (drop c.args.added c.args.pattern.now) fault.index (inline_text lines)) shown here, ap (λ fault. Words (Pattern c.args.number fault lines)) shown)
