use Rattle.std.proofs.Common.{subst}
use Rattle.std.specs.Str.{chars}
use Rattle.wtf8_core.specs.Truncated.{IsTruncated}
use Rattle.platform_str.specs.Strings.{bytes}
use Rattle.os_command_line.specs.PowerShell.{powershell_string}
use Rattle.os_command_line.proofs.lemmas.PowerShell.{is_powershell_text}
use Rattle.os_command_line.proofs.shell.powershell.write_quoted_powershell.Goals as goal

pub returns-in-Ok-clause-text : goal.returns-in-Ok-clause-text
returns-in-Ok-clause-text c = (
  powershell_string (chars (bytes c.args.name)),
  (is_powershell_text (chars (bytes c.args.name)), subst (λ x. IsTruncated (powershell_string (chars x)) c.args.buffer.now c.push_string.new.buffer c.push_string.result) c.in-Ok.ensures.text c.push_string.ensures),
)
