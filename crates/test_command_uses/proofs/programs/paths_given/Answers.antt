use Rattle.std.proofs.Common.{⊎_elim, ap}
use Rattle.program_frame.specs.Ended.{outcome_of}
use Rattle.program_frame.specs.Marked.{marked_inner}
use Rattle.test_command_uses.proofs.GivenPaths.{runs_unread}
use Rattle.test_command_uses.proofs.programs.paths_given.Goals as goal

pub returns : goal.returns
returns g c = ⊎_elim
    (λ memory. ap (λ r. g.R.Read.remaining (marked_inner r)) memory.1.0)
    (λ runs. runs_unread _ _ _ _ (outcome_of c.execute.result) _ c.requires.words runs.0)
    c.execute.ensures.run
