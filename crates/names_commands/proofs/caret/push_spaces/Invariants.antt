use Rattle.std.proofs.Common.{◌≡◌, ◌++◌}
use Rattle.std.specs.Prelude.{string_bytes}
use Rattle.std.specs.Str.{IsUtf8}
use Rattle.std.specs.Str.Iter.{chars_rest}
use Rattle.names_commands.specs.Caret.{spaces_below}
use Rattle.names_commands.proofs.caret.push_spaces.Given as goal

-- the characters so far have what is as wide
abbrev pub invariant-loop-character : goal.invariant-loop-character
invariant-loop-character g l = IsUtf8 (chars_rest l.character-iterator) × (string_bytes l.line ++ spaces_below (chars_rest l.character-iterator) ≡ string_bytes l.fn.line ++ spaces_below l.fn.text)
