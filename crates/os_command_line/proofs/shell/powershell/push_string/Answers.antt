use Rattle.std.proofs.Common.{rules, refl, sym, arith}
use Rattle.platform_str.proofs.lemmas.Pushing.{never_rejected, pushed_whole}
use Rattle.os_command_line.proofs.lemmas.PowerShell.{string_len}
use Rattle.os_command_line.proofs.shell.powershell.push_string.Goals as goal

pub write_string-requires : goal.write_string-requires
write_string-requires c = omega (arith, c.requires, string_len c.args.text.now c.utf8.text)

pub returns : goal.returns
returns c =
    let pushed = never_rejected c.write_string.result c.write_string.ensures in
    let same = sym pushed.0 in
    pushed_whole pushed.1 refl refl (search (rules, same))
