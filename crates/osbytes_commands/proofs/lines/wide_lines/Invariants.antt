use Rattle.std.proofs.Common.{◌≡◌, ◌++◌}
use Rattle.os_str_bytes.specs.UnitsOf.{units_of}
use Rattle.os_str_bytes.specs.Strings.{bytes}
use Rattle.program_frame.specs.declared.os.Os.TheVariants.{Windows}
use Rattle.osbytes_commands.specs.Lines.{unit_lines}
use Rattle.osbytes_commands.proofs.lines.wide_lines.Given as goal

abbrev pub invariant-loop-unit : goal.invariant-loop-unit
invariant-loop-unit g l = l.output.items ++ unit_lines Windows l.unit-iterator ≡ unit_lines Windows (units_of (bytes l.string))
