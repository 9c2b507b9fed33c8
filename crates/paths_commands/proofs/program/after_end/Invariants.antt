use Rattle.std.proofs.Common.{ℕ, length, map}
use Rattle.std.specs.Prelude.{string_bytes}
use Rattle.paths_commands.specs.Command.{AreAfterEnd}
use Rattle.paths_commands.proofs.program.after_end.Given as goal

-- what comes after the first `--` of those that are left comes after the first of all
abbrev pub invariant-loop-word : goal.invariant-loop-word
invariant-loop-word l = (count : ℕ) → AreAfterEnd (map string_bytes l.left) count → AreAfterEnd (map string_bytes l.words) count

abbrev pub decreases-loop-word : goal.decreases-loop-word
decreases-loop-word l = length l.left
