use Rattle.std.proofs.Common.{◌+◌, ◌≤◌, ℕ, List, ◌++◌, Option, length}
use Rattle.list_programs.specs.declared.fault.ListFault.{ListFault}
use Rattle.tar_names.specs.declared.fault.TarFault.{TarFault}
use Rattle.tar_names.specs.Left.{AreLeft, left_of}
use Rattle.names_commands.specs.Tar.{AreWritten, IsTarOutput, earlier}
use Rattle.names_commands.specs.declared.fault.Rejection.{Rejection}
use Rattle.names_commands.proofs.tar.names_of.Given as goal

-- each entry has bytes, and what is written of those that are left completes the output
abbrev pub invariant-loop-output : goal.invariant-loop-output
invariant-loop-output g l =
    (l.number + length (left_of l.entries) ≤ length l.archive + 1)
    × ((names : List (List ℕ)) (end : Option TarFault) (output : List ℕ) (later : Option (ListFault Rejection)) → AreLeft l.entries names end → AreWritten g.E.Platform l.list l.number names end output later → IsTarOutput g.E.Platform l.list l.archive (l.output.items ++ output) (earlier l.first later))

abbrev pub decreases-loop-output : goal.decreases-loop-output
decreases-loop-output g l = length (left_of l.entries)
