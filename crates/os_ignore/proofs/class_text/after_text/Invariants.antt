use Rattle.std.proofs.Common.{◌≡◌, ◌≤◌, length}
use Rattle.os_ignore.specs.ClassText.{after_text}
use Rattle.os_ignore.proofs.class_text.after_text.Given as goal

abbrev pub invariant-loop-byte : goal.invariant-loop-byte
invariant-loop-byte l = (after_text l.text l.letters ≡ after_text l.wanted l.left) × (length l.left ≤ length l.letters)

abbrev pub decreases-loop-byte : goal.decreases-loop-byte
decreases-loop-byte l = length l.wanted
