use Rattle.std.proofs.Common.{ap, ◌∙◌}
use Rattle.os_args.specs.Reading.{with_numbers}
use Rattle.test_line_uses.proofs.CommandLines.{negative}
use Rattle.test_line_uses.proofs.command_lines.negative_number.Goals as goal

pub returns : goal.returns
returns g c =
    negative c.one_outcome.ensures.next _ _ _ _ (c.numbers_as_values-arguments.ensures ∙ ap with_numbers c.new-arguments.ensures) c.next.ensures
