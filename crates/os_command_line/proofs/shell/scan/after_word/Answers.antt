use Rattle.os_command_line.proofs.lemmas.ShellBare.{quoted_outcome}
use Rattle.os_command_line.proofs.shell.scan.after_word.Goals as goal

pub returns-in-Some : goal.returns-in-Some
returns-in-Some c =
    let found = c.in-Some.ensures in
    (found.0, quoted_outcome c.args.language c.args.text.now found.0 c.in-Some.rest.now found.1 found.2)
