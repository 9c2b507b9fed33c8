use Rattle.std.proofs.Common.{◌≡◌, ◌+◌, ◌-◌, ◌^◌, ◌<◌, false}
use Rattle.program_frame.specs.Marked.{marked_inner, has_failed}
use Rattle.list_programs.specs.ListRun.{HasRead, WritesSome}
use Rattle.list_programs.specs.Rules.{passing}
use Rattle.list_programs.proofs.run.run_with.Given as goal

abbrev pub invariant-loop-alloc : goal.invariant-loop-alloc
invariant-loop-alloc g l = record {
  read : HasRead (passing (g.N.Rejections.passed l.rejections) (g.T.ListTask.rules (g.T.ListTask.plan l.task))) (g.R.Read.remaining (marked_inner l.fn.reader)) (g.R.Read.remaining (marked_inner l.reader)) (g.W.Write.contents (marked_inner l.fn.writer)) (g.W.Write.contents (marked_inner l.writer)) l.begun.items l.so_far.count l.total;
  wrote : WritesSome l.so_far.wrote (g.W.Write.contents (marked_inner l.fn.writer)) (g.W.Write.contents (marked_inner l.writer));
  within : l.total + 1 < 2 ^ 64;
  reader_unmarked : has_failed l.reader ≡ false;
  writer_unmarked : has_failed l.writer ≡ false;
  plan : g.T.ListTask.plan l.task ≡ g.T.ListTask.plan l.fn.task;
}

abbrev pub decreases-loop-alloc : goal.decreases-loop-alloc
decreases-loop-alloc g l = 2 ^ 64 - l.total
