use Rattle.program_frame.specs.Ended.{outcome_of}
use Rattle.test_command_uses.proofs.KnownGlob.{program_chosen}
use Rattle.test_command_uses.proofs.Requested.{of_run}
use Rattle.test_command_uses.proofs.choosing.chosen.Goals as goal

pub returns : goal.returns
returns g c =
    program_chosen c.one_outcome.ensures.next c.one_outcome.ensures.value _ g.row.A.Denot c.args.glob.now c.args.name.now c.requires.plain c.requires.whole _ c.requires.words _ _ _ c.args.names.now
    (outcome_of c.execute.result) c.outcome.result c.requires.ended c.outcome.ensures
    (rw (c.new-names.ensures, c.new-reader.ensures.inner) at (of_run c.execute.ensures.run))
