use Rattle.std.proofs.Common.{◌≡◌, ◌++◌, length}
use Rattle.glob_text.specs.Escape.{escaped}
use Rattle.glob_text.proofs.escaped.escape.Given as goal

abbrev pub invariant-loop-byte : goal.invariant-loop-byte
invariant-loop-byte g l = l.pattern.items ++ escaped l.quoting l.left ≡ escaped l.quoting l.text

abbrev pub decreases-loop-byte : goal.decreases-loop-byte
decreases-loop-byte g l = length l.left
