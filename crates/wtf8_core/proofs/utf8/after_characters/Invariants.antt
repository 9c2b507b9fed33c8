use Rattle.wtf8_core.proofs.Common.{ℕ, ◌≡◌, ◌≤◌, length, take, drop, IsUtf8}
use Rattle.wtf8_core.proofs.utf8.after_characters.Given as goal

abbrev pub invariant-loop : goal.invariant-loop
invariant-loop l = (at : ℕ) × (at ≤ length l.bytes) × (l.rest ≡ drop at l.bytes) × IsUtf8 (take at l.bytes)
