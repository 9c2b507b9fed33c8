use Rattle.std.proofs.Common.{◌≡◌, ◌++◌, map, length}
use Rattle.std.specs.Prelude.{string_bytes}
use Rattle.os_str_bytes.specs.Strings.{bytes}
use Rattle.names_commands.proofs.pick.strings_of.Given as goal

-- the strings so far and the patterns that are left are all patterns
abbrev pub invariant-loop-pattern : goal.invariant-loop-pattern
invariant-loop-pattern g l = map bytes l.strings.items ++ map string_bytes l.left ≡ map string_bytes l.patterns

abbrev pub decreases-loop-pattern : goal.decreases-loop-pattern
decreases-loop-pattern g l = length l.left
