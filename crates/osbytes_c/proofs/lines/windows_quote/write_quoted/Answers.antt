use Rattle.std.proofs.Common.{arith}
use Rattle.wtf8_core.specs.UnitsOf.{units_of}
use Rattle.platform_str.specs.Strings.{bytes}
use Rattle.os_command_line.proofs.lemmas.WindowsStrings.{units_fit}
use Rattle.osbytes_c.proofs.lemmas.ArgumentWriting.{slashes, quoted_in_buffer}
use Rattle.osbytes_c.proofs.lines.windows_quote.write_quoted.Goals as goal

pub push_backslashes-closing-requires : goal.push_backslashes-closing-requires
push_backslashes-closing-requires c = omega (arith, c.push_unit-opened.ensures.1, c.push_units-written.ensures.few, units_fit (bytes c.args.argument) c.args.argument.ok, c.requires)

pub push_unit-requires : goal.push_unit-requires
push_unit-requires c =
    omega (arith, c.push_unit-opened.ensures.1, c.push_units-written.ensures.few, c.push_backslashes-closing.ensures.1, slashes c.push_units-written.result.1, units_fit (bytes c.args.argument) c.args.argument.ok, c.requires)

pub returns : goal.returns
returns c = quoted_in_buffer (units_of (bytes c.args.argument)) _ _ _ _ _ _ _ _ _ _ c.push_unit-opened.ensures c.push_units-written.ensures c.push_backslashes-closing.ensures c.push_unit.ensures
