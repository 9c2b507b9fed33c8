use Rattle.std.proofs.Common.{◌≡◌, ◌++◌, false, List, ℕ, length}
use Rattle.os_command_line.specs.ShellSteps.{AreItself}
use Rattle.os_command_line.proofs.shell.scan.after_itself.Given as goal

abbrev pub invariant-loop-byte : goal.invariant-loop-byte
invariant-loop-byte l = (raw : List ℕ) × AreItself false raw × (l.text ≡ raw ++ l.rest)

abbrev pub decreases-loop-byte : goal.decreases-loop-byte
decreases-loop-byte l = length l.rest
