use Rattle.test_line_uses.proofs.CommandLines.{none}
use Rattle.test_line_uses.proofs.command_lines.no_words.Goals as goal

pub returns : goal.returns
returns g c =
    none c.one_outcome.ensures.next c.one_outcome.ensures.value _ _ _ _ _ _ c.new-arguments.ensures c.next-word.ensures c.value-value.ensures
