use Rattle.std.proofs.Common.{◌≤◌, length}
use Rattle.memchr.specs.Find.{Nowhere, OccursAt as NeedleOccursAt}
use Rattle.os_str_ext.proofs.needle.first_in_copy.Given as goal

abbrev pub invariant-loop : goal.invariant-loop
invariant-loop l = (l.from ≤ length l.bytes) × Nowhere (NeedleOccursAt l.bytes l.needle) 0 l.from
