use Rattle.std.proofs.Common.{ℕ, ◌+◌, ◌≤◌, length}
use Rattle.memchr.specs.Find.{OccursAt as NeedleOccursAt}
use Rattle.os_str_ext.proofs.needle.last_by_end.Given as goal

abbrev pub invariant-loop : goal.invariant-loop
invariant-loop l = (l.end ≤ length l.bytes) × ((k : ℕ) → NeedleOccursAt l.bytes l.needle k → k + length l.needle ≤ l.end)
