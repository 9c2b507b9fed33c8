use Rattle.platform_str.proofs.Common.{length, IsLeftToRead}
use Rattle.platform_str.proofs.reading.read_wtf8.Given as goal

abbrev pub invariant-loop-valid_up_to : goal.invariant-loop-valid_up_to
invariant-loop-valid_up_to g l = IsLeftToRead l.bytes l.reading.items l.rest

abbrev pub decreases-loop-valid_up_to : goal.decreases-loop-valid_up_to
decreases-loop-valid_up_to g l = length l.rest
