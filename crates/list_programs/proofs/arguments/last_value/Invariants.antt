use Rattle.std.proofs.Common.{ℕ, List, length, Option, None}
use Rattle.std.specs.Option.{option_map}
use Rattle.list_programs.specs.Arguments.{LastValue, text_of}
use Rattle.list_programs.proofs.arguments.last_value.Given as goal

-- what is last after the value so far is last of all
abbrev pub invariant-loop-left : goal.invariant-loop-left
invariant-loop-left g l = (value : Option (List ℕ)) → LastValue l.option l.left (option_map text_of l.last) value → LastValue l.option l.given None value

abbrev pub decreases-loop-left : goal.decreases-loop-left
decreases-loop-left g l = length l.left
