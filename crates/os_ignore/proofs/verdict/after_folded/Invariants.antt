use Rattle.std.proofs.Common.{◌↔◌, true, List, ℕ, length}
use Rattle.os_ignore.specs.Matching.{IsAfter}
use Rattle.os_ignore.proofs.verdict.after_folded.Given as goal

abbrev pub invariant-loop-byte : goal.invariant-loop-byte
invariant-loop-byte l = (rest : List ℕ) → IsAfter true l.small l.text rest ↔ IsAfter true l.wanted l.left rest

abbrev pub decreases-loop-byte : goal.decreases-loop-byte
decreases-loop-byte l = length l.wanted
