use Rattle.std.proofs.Common.{◌≡◌, ◌++◌}
use Rattle.osbytes_commands.specs.Lines.{piece_lines}
use Rattle.osbytes_commands.proofs.split.piece_lines.Given as goal

abbrev pub invariant-loop-piece : goal.invariant-loop-piece
invariant-loop-piece g l = l.lines.items ++ piece_lines l.piece-iterator ≡ piece_lines l.fn.pieces
