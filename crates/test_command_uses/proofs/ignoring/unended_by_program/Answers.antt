use Rattle.std.proofs.Common.{false}
use Rattle.program_frame.specs.Ended.{outcome_of}
use Rattle.test_command_uses.proofs.WrittenIgnore.{program_unended}
use Rattle.test_command_uses.proofs.Requested.{of_run}
use Rattle.test_command_uses.proofs.ignoring.unended_by_program.Goals as goal

pub returns : goal.returns
returns g c =
    let file = c.args.file in
    program_unended c.one_outcome.ensures.next c.one_outcome.ensures.value g.row.A.Denot false file.name.now file.bytes.now c.args.name.now c.requires.whole _ c.requires.words _ _ _
    (outcome_of c.execute.result) c.outcome.result c.requires.plain c.requires.some c.outcome.ensures
    (rw (c.new-names.ensures, c.new-reader.ensures.inner) at (of_run c.execute.ensures.run))
