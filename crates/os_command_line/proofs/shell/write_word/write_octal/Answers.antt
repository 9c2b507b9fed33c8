use Rattle.std.proofs.Common.{◌≡◌, ◌+◌, ◌/◌, ◌%◌, ◌∷◌, [], sym, ap, ◌∙◌, subst, arith}
use Rattle.os_command_line.specs.ShellWriting.{octal_text}
use Rattle.os_command_line.proofs.shell.write_word.write_octal.Goals as goal

pub take_ascii-requires : goal.take_ascii-requires
take_ascii-requires g c =
    let x = c.octal_digit.ensures in
    let y = c.octal_digit-2.ensures in
    let z = c.octal_digit-3.ensures in
    let n = c.args.number in
    record { ascii = (omega arith, (omega (arith, x), (omega (arith, y), (omega (arith, z), tt)))); room = rw (x, y, z) c.requires }

pub returns : goal.returns
returns g c = rw (← c.octal_digit.ensures, ← c.octal_digit-2.ensures, ← c.octal_digit-3.ensures) c.take_ascii.ensures
