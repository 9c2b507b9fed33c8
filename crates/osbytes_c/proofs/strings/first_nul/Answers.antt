use Rattle.os_command_line.proofs.lemmas.ShellForms.{nul_found}
use Rattle.osbytes_c.proofs.strings.first_nul.Goals as goal

pub returns : goal.returns
returns c = nul_found c.args.raw.now c.memchr.result c.memchr.ensures
