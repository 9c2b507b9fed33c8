use Rattle.std.proofs.Common.{◌++◌, ◌∙◌, ap}
use Rattle.wtf8_core.specs.UnitsOf.{units_of}
use Rattle.platform_str.specs.Strings.{bytes}
use Rattle.os_command_line.proofs.lemmas.WindowsWriting.{cut_back, plain_text, text_is}
use Rattle.os_command_line.proofs.windows.writing.push_argument.Goals as goal

pub returns-in-Ok-clause-text : goal.returns-in-Ok-clause-text
returns-in-Ok-clause-text g c = (_, c.in-Ok.ensures.written, text_is (units_of (bytes c.args.argument)))

pub returns-in-Ok-clause-plain : goal.returns-in-Ok-clause-plain
returns-in-Ok-clause-plain g c = λ p. c.in-Ok.ensures.written ∙ ap (λ z. c.args.line.now.items ++ z) (plain_text _ p)

pub returns-in-Err-clause-unchanged : goal.returns-in-Err-clause-unchanged
returns-in-Err-clause-unchanged g c = cut_back _ _ _ _ c.push_text.ensures.grows (c.len-len.ensures ∙ c.args.line.now.ok.0) c.truncate.ensures.items
