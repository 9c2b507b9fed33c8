use Rattle.std.proofs.Common.{rules, refl, sym, arith}
use Rattle.platform_str.specs.Strings.{bytes}
use Rattle.platform_str.proofs.lemmas.Pushing.{never_rejected, pushed_whole}
use Rattle.os_command_line.proofs.lemmas.ShellBare.{any_form}
use Rattle.os_command_line.proofs.lemmas.ShellWritten.{form_len}
use Rattle.os_command_line.proofs.shell.write_buffer.push_in.Goals as goal

pub write_in-requires : goal.write_in-requires
write_in-requires c = record { accepted = any_form (bytes c.args.name) c.args.form; room = omega (arith, c.requires, form_len c.args.form (bytes c.args.name) c.args.name.ok) }

pub returns : goal.returns
returns c =
    let pushed = never_rejected c.write_in.result c.write_in.ensures in
    let same = sym pushed.0 in
    pushed_whole pushed.1 refl refl (search (rules, same))
