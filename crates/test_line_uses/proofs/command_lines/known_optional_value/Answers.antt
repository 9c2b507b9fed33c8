use Rattle.test_line_uses.proofs.command_lines.known_optional_value.Goals as goal

pub returns : goal.returns
returns g c = λ known left h. c.one_outcome.ensures.optional _ _ known _ left c.optional_value.ensures h
