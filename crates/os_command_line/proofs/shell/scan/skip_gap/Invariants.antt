use Rattle.std.proofs.Common.{◌≡◌, length}
use Rattle.os_command_line.specs.ShellReader.{after_gap}
use Rattle.os_command_line.proofs.shell.scan.skip_gap.Given as goal

abbrev pub invariant-loop-first : goal.invariant-loop-first
invariant-loop-first l = after_gap l.line ≡ after_gap l.rest

abbrev pub decreases-loop-first : goal.decreases-loop-first
decreases-loop-first l = length l.rest
