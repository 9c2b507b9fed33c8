use Rattle.std.proofs.Common.{[], ◌∷◌, ◌++◌, length, map, drop, ◌-◌}
use Rattle.wtf8_core.specs.UnitsOf.{units_of}
use Rattle.platform_str.specs.Strings.{bytes}
use Rattle.os_command_line.specs.WindowsWriting.{argument_text}
use Rattle.os_command_line.proofs.lemmas.ShellJoining.{IsJoinedSoFar}
use Rattle.os_command_line.proofs.windows.writing.command_line.Given as goal

abbrev pub invariant-loop-argument : goal.invariant-loop-argument
invariant-loop-argument g l =
    IsJoinedSoFar argument_text (map (λ a. units_of (bytes a)) l.arguments) (map units_of (drop l.index (map bytes l.arguments))) (0x22 ∷ (units_of (bytes l.program) ++ 0x22 ∷ [])) l.line.items

abbrev pub decreases-loop-argument : goal.decreases-loop-argument
decreases-loop-argument g l = length l.arguments - l.index
