use Rattle.std.proofs.Common.{◌≡◌, ◌<◌, ◌≤◌, ◌-◌, ℕ, false, get_or, length}
use Rattle.wildcards.specs.Ranges.{permits}
use Rattle.wildcards.proofs.class.Class.new.Given as goal

abbrev pub invariant-loop-at : goal.invariant-loop-at
invariant-loop-at g l = (length l.ascii ≡ 0x80) × ((l.at ≤ 0x80) × ((letter : ℕ) → letter < l.at → get_or l.ascii letter false ≡ permits l.negated l.ordered.items letter))

abbrev pub decreases-loop-at : goal.decreases-loop-at
decreases-loop-at g l = 0x80 - l.at
