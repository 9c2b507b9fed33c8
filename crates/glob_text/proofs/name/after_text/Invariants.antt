use Rattle.std.proofs.Common.{◌≡◌, ◌≤◌, length}
use Rattle.glob_text.specs.ClassText.{after_text}
use Rattle.glob_text.proofs.name.after_text.Given as goal

abbrev pub invariant-loop-byte : goal.invariant-loop-byte
invariant-loop-byte l = (after_text l.text l.symbols ≡ after_text l.wanted l.left) × (length l.left ≤ length l.symbols)

abbrev pub decreases-loop-byte : goal.decreases-loop-byte
decreases-loop-byte l = length l.wanted
