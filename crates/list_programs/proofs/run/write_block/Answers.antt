use Rattle.std.proofs.Common.{subst}
use Rattle.program_frame.specs.Marked.{marked_inner}
use Rattle.program_frame.specs.Written.{AppendsBeginning}
use Rattle.list_programs.specs.Rules.{passing}
use Rattle.list_programs.proofs.lemmas.Runs.{other_err, block_begins}
use Rattle.list_programs.proofs.run.write_block.Goals as goal

pub returns-clause-beginning : goal.returns-clause-beginning
returns-clause-beginning g c = λ e.
    let list = passing (g.N.Rejections.passed c.read_block-ended.new.rejections) (g.T.ListTask.rules (g.T.ListTask.plan c.args.task.now)) in
    let read = c.read_block-ended.ensures in
    let text = c.read_block-ended.new.output.items in (
      text,
      (
        block_begins list c.read_block-ended.result _ c.read_block-ended.new.begun.items _ _ text _ c.new-output.ensures.items read.ok read.fault,
        subst (AppendsBeginning (g.W.Write.contents (marked_inner c.args.writer.now)) (g.W.Write.contents (marked_inner c.write_output.new.writer))) c.deref.ensures.value (c.in-Err.ensures.beginning (other_err _ _ _ _ e)),
      ),
    )
