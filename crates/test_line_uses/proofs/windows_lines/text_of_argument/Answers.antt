use Rattle.std.proofs.Common.{◌++◌, ◌∙◌, ap}
use Rattle.wtf8_core.specs.UnitsOf.{units_of}
use Rattle.platform_str.specs.Strings.{bytes}
use Rattle.os_command_line.specs.WindowsWriting.{argument_text}
use Rattle.test_line_uses.proofs.windows_lines.text_of_argument.Goals as goal

pub returns-clause-blank : goal.returns-clause-blank
returns-clause-blank g c is =
    let us = units_of (bytes c.args.argument) in
    c.in_ok-push_argument.ensures.written ∙ ap (λ z. z ++ argument_text us) c.new-text.ensures.items ∙ ap argument_text is

pub returns-clause-empty : goal.returns-clause-empty
returns-clause-empty g c is =
    let us = units_of (bytes c.args.argument) in
    c.in_ok-push_argument.ensures.written ∙ ap (λ z. z ++ argument_text us) c.new-text.ensures.items ∙ ap argument_text is

pub returns-clause-mark : goal.returns-clause-mark
returns-clause-mark g c is =
    let us = units_of (bytes c.args.argument) in
    c.in_ok-push_argument.ensures.written ∙ ap (λ z. z ++ argument_text us) c.new-text.ensures.items ∙ ap argument_text is
