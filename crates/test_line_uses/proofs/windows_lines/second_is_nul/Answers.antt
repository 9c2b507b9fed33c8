use Rattle.wtf8_core.specs.UnitsOf.{units_of}
use Rattle.platform_str.specs.Strings.{bytes}
use Rattle.test_line_uses.proofs.LinesRead.{second_refused}
use Rattle.test_line_uses.proofs.windows_lines.second_is_nul.Goals as goal

pub returns : goal.returns
returns c is = second_refused (units_of (bytes c.args.argument)) c.push_argument.result is c.push_argument.ensures.no_nul c.push_argument.ensures.fault
