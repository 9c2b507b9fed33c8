use Rattle.os_args.specs.Views.{reading}
use Rattle.test_line_uses.proofs.command_lines.known_rest.Goals as goal

pub returns : goal.returns
returns g c = λ known left h. c.one_outcome.ensures.rest (reading c.args.arguments.now) _ known _ left c.rest.ensures h
