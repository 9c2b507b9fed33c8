use Rattle.std.proofs.Common.{length, map, drop, ◌-◌}
use Rattle.platform_str.specs.Strings.{bytes}
use Rattle.os_command_line.specs.ShellWriting.{quoted_word}
use Rattle.os_command_line.proofs.lemmas.ShellJoining.{IsJoinedSoFar}
use Rattle.os_command_line.proofs.shell.joining.push_after.Given as goal

abbrev pub invariant-loop-name : goal.invariant-loop-name
invariant-loop-name g l = IsJoinedSoFar quoted_word (map bytes l.fn.names) (drop l.index (map bytes l.fn.names)) l.fn.line.items l.line.items

abbrev pub decreases-loop-name : goal.decreases-loop-name
decreases-loop-name g l = length l.fn.names - l.index
