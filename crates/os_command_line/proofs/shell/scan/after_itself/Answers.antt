use Rattle.std.proofs.Common.{◌∙◌, sym}
use Rattle.os_command_line.proofs.lemmas.ShellBare.{one_itself}
use Rattle.os_command_line.proofs.shell.scan.after_itself.Goals as goal

pub loop-byte-preserved : goal.loop-byte-preserved
loop-byte-preserved c = one_itself c.args.text.now c.loop-byte.rest.now c.in-Some.byte.now c.in-Some.after.now c.loop-byte.invariant c.in-Some.ensures.cases.0 (sym c.is_itself.ensures ∙ c.if-not-is_itself.false)
