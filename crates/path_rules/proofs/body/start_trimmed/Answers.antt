use Rattle.path_rules.proofs.lemmas.Tails.{empty_tail}
use Rattle.path_rules.proofs.body.start_trimmed.Goals as goal

pub returns-in-None-clause-after : goal.returns-in-None-clause-after
returns-in-None-clause-after c = empty_tail c.args.body.now c.as_slice.result.now c.as_slice.ensures
