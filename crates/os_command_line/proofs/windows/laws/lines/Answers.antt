use Rattle.std.proofs.Common.{false}
use Rattle.os_command_line.specs.Windows.{IsCommandLine}
use Rattle.os_command_line.specs.WindowsReader.{word_from, name_index, arguments_in}
use Rattle.os_command_line.proofs.lemmas.WindowsOneReading as reading
use Rattle.os_command_line.proofs.lemmas.WindowsEachLine as each
use Rattle.os_command_line.proofs.windows.laws.lines.Goals as goal

pub returns-clause-some : goal.returns-clause-some
unfolding IsCommandLine
returns-clause-some c line =
    let read = word_from name_index line in
    (read.0, (arguments_in read.1, (read.1, each.some_name line false, each.are_found read.1)))

pub returns-clause-one_line : goal.returns-clause-one_line
returns-clause-one_line c = reading.one_line

pub returns-clause-arguments : goal.returns-clause-arguments
returns-clause-arguments c text = each.some_list text

pub returns-clause-one : goal.returns-clause-one
returns-clause-one c text xs ys p q = reading.one_list text xs ys p q
