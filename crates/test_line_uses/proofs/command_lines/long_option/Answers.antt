use Rattle.test_line_uses.proofs.CommandLines.{long_text, long_no_text}
use Rattle.test_line_uses.proofs.command_lines.long_option.Goals as goal

pub returns-clause-text : goal.returns-clause-text
returns-clause-text g c =
    long_text c.one_outcome.ensures.next c.one_outcome.ensures.value _ _ _ _ _ _ c.new-arguments.ensures c.next-word.ensures c.value-value.ensures

pub returns-clause-no_text : goal.returns-clause-no_text
returns-clause-no_text g c =
    long_no_text c.one_outcome.ensures.next c.one_outcome.ensures.value _ _ _ _ _ _ c.new-arguments.ensures c.next-word.ensures c.value-value.ensures
