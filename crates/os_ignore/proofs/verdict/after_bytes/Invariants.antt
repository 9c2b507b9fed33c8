use Rattle.std.proofs.Common.{◌≡◌, ◌↔◌, ◌++◌, List, ℕ, length}
use Rattle.os_ignore.proofs.verdict.after_bytes.Given as goal

abbrev pub invariant-loop-byte : goal.invariant-loop-byte
invariant-loop-byte l = (rest : List ℕ) → (l.text ≡ l.bytes ++ rest) ↔ (l.left ≡ l.wanted ++ rest)

abbrev pub decreases-loop-byte : goal.decreases-loop-byte
decreases-loop-byte l = length l.wanted
