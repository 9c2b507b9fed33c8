use Rattle.std.proofs.Common.{◌≡◌, ◌++◌, length}
use Rattle.os_ignore.specs.Lines.{literal_prefix, after_literal}
use Rattle.os_ignore.proofs.line.read_literal.Given as goal

abbrev pub invariant-loop-first : goal.invariant-loop-first
invariant-loop-first g l = (literal_prefix l.folds l.letters ≡ l.literal.items ++ literal_prefix l.folds l.left) × (after_literal l.letters ≡ after_literal l.left)

abbrev pub decreases-loop-first : goal.decreases-loop-first
decreases-loop-first g l = length l.left
