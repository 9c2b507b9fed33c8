use Rattle.std.proofs.Common.{◌↔◌, ◌≤◌, length}
use Rattle.path_rules.specs.Simplified.{wide_len}
use Rattle.path_rules.proofs.simplify.fits.Given as goal

abbrev pub invariant-loop-byte : goal.invariant-loop-byte
invariant-loop-byte l = (wide_len l.bytes ≤ l.most) ↔ (wide_len l.rest ≤ l.left)

abbrev pub decreases-loop-byte : goal.decreases-loop-byte
decreases-loop-byte l = length l.rest
