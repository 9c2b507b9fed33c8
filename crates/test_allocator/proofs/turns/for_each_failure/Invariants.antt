use Rattle.test_allocator.specs.Turns.{each_request, RanUnder}
use Rattle.test_allocator.proofs.turns.for_each_failure.Given as goal

-- there was a turn for each request that failed
abbrev pub invariant-loop-failed : goal.invariant-loop-failed
invariant-loop-failed g l = goal.F-IsAlwaysCallable g l.test × RanUnder (goal.F-step g) l.fn.test (each_request l.failed) l.test
