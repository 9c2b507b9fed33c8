use Rattle.program_frame.specs.Ended.{outcome_of}
use Rattle.program_frame.specs.declared.os.Os.TheVariants.{Unix}
use Rattle.test_command_uses.proofs.CommonPaths.{base_at_end}
use Rattle.test_command_uses.proofs.programs.paths_common.Goals as goal

pub returns : goal.returns
returns g c = base_at_end Unix _ _ _ _ _ (outcome_of c.execute.result) c.outcome.result c.outcome.ensures c.requires.words c.execute.ensures.run
