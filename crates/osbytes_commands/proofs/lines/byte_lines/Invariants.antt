use Rattle.std.proofs.Common.{◌≡◌, take}
use Rattle.program_frame.specs.declared.os.Os.TheVariants.{Unix}
use Rattle.osbytes_commands.specs.Lines.{unit_lines}
use Rattle.osbytes_commands.proofs.lines.byte_lines.Given as goal

abbrev pub invariant-loop-byte : goal.invariant-loop-byte
invariant-loop-byte g l = l.output.items ≡ unit_lines Unix (take l.byte-index l.bytes)
