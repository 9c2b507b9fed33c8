use Rattle.std.proofs.Common.{◌≡◌, ◌++◌, map, length}
use Rattle.std.specs.Prelude.{string_bytes}
use Rattle.os_str_bytes.specs.Strings.{bytes}
use Rattle.list_programs.proofs.arguments.strings_of.Given as goal

-- the strings so far and the words that are left are all words
abbrev pub invariant-loop-word : goal.invariant-loop-word
invariant-loop-word g l = map bytes l.strings.items ++ map string_bytes l.left ≡ map string_bytes l.words

abbrev pub decreases-loop-word : goal.decreases-loop-word
decreases-loop-word g l = length l.left
