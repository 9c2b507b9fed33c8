use Rattle.platform_str.specs.Strings.{bytes}
use Rattle.test_line_uses.proofs.LinesRead.{second_name_refused}
use Rattle.test_line_uses.proofs.shell_words.word_with_nul.Goals as goal

pub returns : goal.returns
returns g c is = second_name_refused (bytes c.args.name) c.quote.result is c.quote.ensures.no_nul c.quote.ensures.fault
