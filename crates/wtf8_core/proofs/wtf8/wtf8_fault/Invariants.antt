use Rattle.wtf8_core.proofs.Common.{IsReadUpTo}
use Rattle.wtf8_core.proofs.wtf8.wtf8_fault.Given as goal

abbrev pub invariant-loop : goal.invariant-loop
invariant-loop l = IsReadUpTo l.bytes l.after_high l.rest
