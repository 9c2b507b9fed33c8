use Rattle.program_frame.specs.Ended.{outcome_of}
use Rattle.test_command_uses.proofs.Requested.{of_run, requested_end}
use Rattle.test_command_uses.proofs.programs.paths_requested.Goals as goal

pub returns : goal.returns
returns g c = requested_end _ _ _ _ _ _ (outcome_of c.execute.result) c.outcome.result c.outcome.ensures c.requires.words (of_run c.execute.ensures.run)
