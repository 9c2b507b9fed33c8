use Rattle.std.proofs.Common.{◌∙◌, sym}
use Rattle.os_command_line.proofs.lemmas.ShellBare.{begins_bare}
use Rattle.os_command_line.proofs.shell.scan.after_bare.Goals as goal

pub returns-then-ends_word : goal.returns-then-ends_word
returns-then-ends_word c = begins_bare c.args.text.now c.in-Some.first.now c.in-Some.after.now c.after_itself-rest.result.now c.in-Some.ensures.cases.0 (sym c.is_itself.ensures ∙ c.if-not-is_itself.false) c.after_itself-rest.ensures (c.ends_word.ensures c.if-ends_word.true)
