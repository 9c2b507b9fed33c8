use Rattle.std.proofs.Common.{false}
use Rattle.program_frame.specs.Ended.{outcome_of}
use Rattle.program_frame.specs.Marked.{marked_inner}
use Rattle.test_command_uses.proofs.WrittenIgnore.{end_of, status_unread}
use Rattle.test_command_uses.proofs.Requested.{of_run}
use Rattle.test_command_uses.proofs.ignoring.unread.Goals as goal

pub returns-clause-fault : goal.returns-clause-fault
returns-clause-fault g c =
    let file = c.args.file in
    let ends = end_of c.one_outcome.ensures.next c.one_outcome.ensures.value g.row.A.Denot false file.name.now file.bytes.now c.args.other.now c.requires.plain c.requires.another _ c.requires.words (λ r. g.R.Read.remaining (marked_inner r)) (λ w. g.W.Write.contents (marked_inner w)) c.args.reader.now c.execute-ended.new.reader c.args.writer.now c.execute-ended.new.writer (outcome_of c.execute-ended.result) (rw c.new-names.ensures at (of_run c.execute-ended.ensures.run)) in
    status_unread (outcome_of c.execute-ended.result) c.outcome-outcome.result _ c.outcome-outcome.ensures c.report.ensures ends.fault

pub returns-clause-kept : goal.returns-clause-kept
returns-clause-kept g c =
    let file = c.args.file in
    (end_of c.one_outcome.ensures.next c.one_outcome.ensures.value g.row.A.Denot false file.name.now file.bytes.now c.args.other.now c.requires.plain c.requires.another _ c.requires.words (λ r. g.R.Read.remaining (marked_inner r)) (λ w. g.W.Write.contents (marked_inner w)) c.args.reader.now c.execute-ended.new.reader c.args.writer.now c.execute-ended.new.writer (outcome_of c.execute-ended.result) (rw c.new-names.ensures at (of_run c.execute-ended.ensures.run))).kept

pub returns-clause-nothing : goal.returns-clause-nothing
returns-clause-nothing g c =
    let file = c.args.file in
    (end_of c.one_outcome.ensures.next c.one_outcome.ensures.value g.row.A.Denot false file.name.now file.bytes.now c.args.other.now c.requires.plain c.requires.another _ c.requires.words (λ r. g.R.Read.remaining (marked_inner r)) (λ w. g.W.Write.contents (marked_inner w)) c.args.reader.now c.execute-ended.new.reader c.args.writer.now c.execute-ended.new.writer (outcome_of c.execute-ended.result) (rw c.new-names.ensures at (of_run c.execute-ended.ensures.run))).nothing
