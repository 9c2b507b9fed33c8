use Rattle.std.proofs.Common.{◌≡◌, ◌-◌, ◌^◌, of_calls, rules}
use Rattle.test_allocator.proofs.TurnsLemmas.{no_turn, one_more_turn, ended_by_a_run, ended_after_all}
use Rattle.test_allocator.proofs.turns.for_each_failure.Goals as goal

pub loop-failed-init : goal.loop-failed-init
loop-failed-init g c = (search of_calls, no_turn _ _)

pub loop-failed-preserved : goal.loop-failed-preserved
loop-failed-preserved g c = (search of_calls, one_more_turn _ _ c.loop-failed.failed c.loop-failed.invariant.1 c.in_ok-test.ensures)

pub returns-then-not-failed-clause-turns : goal.returns-then-not-failed-clause-turns
returns-then-not-failed-clause-turns g c = (_, one_more_turn _ _ c.loop-failed.failed c.loop-failed.invariant.1 c.in_ok-test.ensures)

pub returns-in_err-test-clause-ended : goal.returns-in_err-test-clause-ended
returns-in_err-test-clause-ended g c =
    let ended = ended_by_a_run _ _ c.loop-failed.failed c.loop-failed.invariant.1 c.in_err-test.ensures in
    search (rules, ended)

pub returns-clause-ended : goal.returns-clause-ended
returns-clause-ended g c =
    let all : c.loop-failed.failed ≡ 2 ^ 64 - 1 = search rules in
    ended_after_all _ _ c.loop-failed.failed _ _ all c.loop-failed.invariant.1
