use Rattle.wtf8_core.proofs.Common.{◌≡◌, ◌++◌, List, ℕ, length, IsInState}
use Rattle.wtf8_core.proofs.checker.read_piece.Given as goal

-- what was read before the rest
abbrev pub invariant-loop-state : goal.invariant-loop-state
invariant-loop-state l = record {
  prefix : List ℕ;
  is : l.fn.piece ≡ prefix ++ l.rest;
  occurs : (b : List ℕ) → IsInState l.fn.state l.fn.bits b → IsInState l.state l.bits (b ++ prefix);
}

abbrev pub decreases-loop-state : goal.decreases-loop-state
decreases-loop-state l = length l.rest
