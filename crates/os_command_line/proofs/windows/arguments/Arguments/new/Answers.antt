use Rattle.wtf8_core.specs.UnitsOf.{units_of}
use Rattle.platform_str.specs.Strings.{bytes}
use Rattle.os_command_line.specs.Windows.{IsCommandLine}
use Rattle.os_command_line.proofs.lemmas.WindowsEachLine.{are_found}
use Rattle.os_command_line.proofs.windows.arguments.Arguments.new.Goals as goal

pub returns : goal.returns
unfolding IsCommandLine
returns c = (units_of (bytes c.cut_name.result.1), c.cut_name.ensures.reads, are_found _)
