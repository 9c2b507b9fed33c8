use Rattle.os_command_line.proofs.lemmas.CharsetBytes.{bytes_read, characters_read, single_are}
use Rattle.os_command_line.proofs.lemmas.CharsetLines.{double_is_charset}
use Rattle.std.proofs.Common.{true}
use Rattle.os_command_line.proofs.shell.laws.charsets.Goals as goal

pub returns-clause-single : goal.returns-clause-single
returns-clause-single c = single_are

pub returns-clause-double : goal.returns-clause-double
returns-clause-double c = double_is_charset

pub returns-clause-bytes : goal.returns-clause-bytes
returns-clause-bytes c l text word after = (λ r. characters_read l true text word after r, λ r. bytes_read l true text word after r)
