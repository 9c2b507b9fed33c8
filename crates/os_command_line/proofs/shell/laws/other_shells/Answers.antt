use Rattle.os_command_line.proofs.lemmas.FishOneReading.{one_fish_name, one_powershell_name}
use Rattle.os_command_line.proofs.shell.laws.other_shells.Goals as goal

pub returns-clause-fish : goal.returns-clause-fish
returns-clause-fish c = one_fish_name

pub returns-clause-powershell : goal.returns-clause-powershell
returns-clause-powershell c = one_powershell_name
