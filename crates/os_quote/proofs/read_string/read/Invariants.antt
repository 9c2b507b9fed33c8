use Rattle.os_quote.proofs.Common.{ℕ, List, length, shown_by, AreBytesRead}
use Rattle.wtf8_core.specs.Truncated.{IsTruncated}
use Rattle.os_quote.proofs.read_string.read.Given as goal

abbrev pub invariant-loop-prefix : goal.invariant-loop-prefix
invariant-loop-prefix l = (decoded : List ℕ) × AreBytesRead (shown_by l.form) l.fn.escape decoded l.rest × IsTruncated decoded l.fn.buffer l.buffer l.count

abbrev pub decreases-loop-prefix : goal.decreases-loop-prefix
decreases-loop-prefix l = length l.rest
