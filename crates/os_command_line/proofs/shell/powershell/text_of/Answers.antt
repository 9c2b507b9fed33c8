use Rattle.std.proofs.Common.{None, Some, subst}
use Rattle.std.specs.Str.{IsUtf8}
use Rattle.memchr.specs.Find.{IsFirstByte, is_byte}
use Rattle.platform_str.specs.Strings.{bytes}
use Rattle.os_command_line.proofs.lemmas.PowerShell.{nul_in}
use Rattle.os_command_line.proofs.shell.powershell.text_of.Goals as goal

pub returns-in-Some-memchr-clause-fault : goal.returns-in-Some-memchr-clause-fault
returns-in-Some-memchr-clause-fault c =
    let same = c.as_encoded_bytes-name.ensures.value in
    let i = c.in-Some-memchr.index in
    (subst IsUtf8 same c.in_default.ensures, nul_in (bytes c.args.name) (Some i) (subst (λ x. IsFirstByte (is_byte 0) x (Some i)) same c.in-Some-memchr.ensures))

pub returns-clause-name : goal.returns-clause-name
returns-clause-name c =
    let same = c.as_encoded_bytes-name.ensures.value in
    (subst IsUtf8 same c.in_default.ensures, nul_in (bytes c.args.name) None (subst (λ x. IsFirstByte (is_byte 0) x None) same c.in_default-memchr.ensures))
