use Rattle.std.proofs.Common.{◌≡◌, ◌≤◌, length}
use Rattle.list_programs.specs.Reading.{IsUpTo}
use Rattle.list_programs.specs.Rules.{passing}
use Rattle.list_programs.proofs.reading.read_block.Given as goal

abbrev pub invariant-loop-last : goal.invariant-loop-last
invariant-loop-last g l = record {
  up_to :
      IsUpTo (passing (g.N.Rejections.passed l.rejections) (g.T.ListTask.rules (g.T.ListTask.plan l.task))) (record { begun = l.fn.begun.items; count = l.count; output = l.fn.output.items }) l.block l.rest
      (record { begun = l.begun.items; count = l.ended; output = l.output.items });
  more : g.N.Rejections.passed l.fn.rejections ≤ g.N.Rejections.passed l.rejections;
  plan : g.T.ListTask.plan l.task ≡ g.T.ListTask.plan l.fn.task;
}

abbrev pub decreases-loop-last : goal.decreases-loop-last
decreases-loop-last g l = length l.rest
