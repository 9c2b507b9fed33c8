use Rattle.test_line_uses.proofs.CommandLines.{short}
use Rattle.test_line_uses.proofs.command_lines.short_option.Goals as goal

pub returns : goal.returns
returns g c =
    short c.one_outcome.ensures.next c.one_outcome.ensures.optional _ _ _ _ _ _ c.new-arguments.ensures c.next-word.ensures c.optional_value-value.ensures
