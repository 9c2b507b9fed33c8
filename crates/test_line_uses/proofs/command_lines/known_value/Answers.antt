use Rattle.test_line_uses.proofs.command_lines.known_value.Goals as goal

pub returns : goal.returns
returns g c = λ known left h. c.one_outcome.ensures.value _ _ known _ left c.value.ensures h
