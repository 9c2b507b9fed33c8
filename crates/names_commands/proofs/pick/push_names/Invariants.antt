use Rattle.std.proofs.Common.{◌≡◌, ◌++◌, map, length}
use Rattle.std.specs.Prelude.{string_bytes}
use Rattle.list_programs.specs.Arguments.{text_of}
use Rattle.names_commands.specs.Pick.{in_any_folder}
use Rattle.names_commands.proofs.pick.push_names.Given as goal

-- the patterns so far are appended
abbrev pub invariant-loop-left : goal.invariant-loop-left
invariant-loop-left g l = map string_bytes l.patterns.items ++ map in_any_folder (map text_of l.left) ≡ map string_bytes l.fn.patterns.items ++ map in_any_folder (map text_of l.globs)

abbrev pub decreases-loop-left : goal.decreases-loop-left
decreases-loop-left g l = length l.left
