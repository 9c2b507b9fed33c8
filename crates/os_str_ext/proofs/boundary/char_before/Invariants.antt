use Rattle.os_str_ext.proofs.Common.{ℕ, ◌<◌, ◌≤◌, ◌-◌, WholeCharacter}
use Rattle.os_str_ext.proofs.boundary.char_before.Given as goal

abbrev pub invariant-loop-size : goal.invariant-loop-size
invariant-loop-size l = (m : ℕ) → 0 < m → m < l.size → m ≤ l.at → WholeCharacter l.bytes (l.at - m) l.at → ⊥
