use Rattle.std.proofs.Common.{◌≡◌, ◌++◌}
use Rattle.osbytes_commands.specs.Lines.{chunk_lines}
use Rattle.osbytes_commands.proofs.chunks.chunk_lines.Given as goal

abbrev pub invariant-loop-part : goal.invariant-loop-part
invariant-loop-part g l = l.output.items ++ chunk_lines l.part-iterator ≡ chunk_lines l.fn.chunks
