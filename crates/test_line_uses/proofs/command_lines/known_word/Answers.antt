use Rattle.test_line_uses.proofs.command_lines.known_word.Goals as goal

pub returns : goal.returns
returns g c = λ known left h. c.one_outcome.ensures.next _ _ known _ left c.next.ensures h
