use Rattle.program_frame.specs.Ended.{outcome_of}
use Rattle.test_command_uses.proofs.KnownGlobFile.{program_picked}
use Rattle.test_command_uses.proofs.Requested.{of_run}
use Rattle.test_command_uses.proofs.picking.picked.Goals as goal

pub returns : goal.returns
returns g c glob line content =
    let file = c.args.file in
    program_picked c.one_outcome.ensures.next c.one_outcome.ensures.value g.row.A.Denot file.name.now file.bytes.now glob c.args.name.now line content c.requires.whole _ c.requires.words _ _ _ c.args.names.now
    (outcome_of c.execute.result) c.outcome.result c.requires.ended c.outcome.ensures
    (rw (c.new-names.ensures, c.new-reader.ensures.inner) at (of_run c.execute.ensures.run))
