use Rattle.std.proofs.Common.{◌≡◌, ◌++◌, take}
use Rattle.std.specs.List.{flat_map}
use Rattle.osbytes_commands.specs.Lines.{lower_byte_digits}
use Rattle.osbytes_commands.proofs.lines.push_piece.Given as goal

abbrev pub invariant-loop-byte : goal.invariant-loop-byte
invariant-loop-byte g l = l.line.items ≡ l.initial.line.items ++ flat_map lower_byte_digits (take l.byte-index l.piece)
