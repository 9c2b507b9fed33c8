use Rattle.std.proofs.Common.{length, subst}
use Rattle.memchr.specs.Find.{Nowhere, Passes, is_byte}
use Rattle.platform_str.specs.Strings.{bytes}
use Rattle.os_command_line.proofs.lemmas.WindowsChecks.{not_there}
use Rattle.os_command_line.proofs.windows.checks.first_at.Goals as goal

pub returns-in-None : goal.returns-in-None
returns-in-None c = not_there c.args.wanted c.requires (bytes c.args.string) c.args.string.ok (subst (λ b. Nowhere (Passes (is_byte c.args.wanted) b) 0 (length b)) c.as_encoded_bytes.ensures.value c.in-None.ensures)
