use Rattle.std.proofs.Common.{map}
use Rattle.os_args.specs.Joining.{all_left, weight}
use Rattle.os_args.specs.Views.{reading}
use Rattle.os_str_bytes.specs.Strings.{bytes}
use Rattle.list_programs.specs.Arguments.{TakesAll, unread}
use Rattle.list_programs.proofs.arguments.read_strings.Given as goal

-- what was given so far was read
abbrev pub invariant-loop-one : goal.invariant-loop-one
invariant-loop-one g l = TakesAll g.O.ProgramOption.spelled g.O.ProgramOption.has_value (unread (map bytes l.fn.strings)) l.given.items (reading l.arguments)

abbrev pub decreases-loop-one : goal.decreases-loop-one
decreases-loop-one g l = weight (all_left (reading l.arguments))
