use Rattle.std.proofs.Common.{length}
use Rattle.os_command_line.specs.ShellReader.{items_of}
use Rattle.os_command_line.proofs.lemmas.ShellItems.{are_items, one_list, words_or_fault}
use Rattle.os_command_line.proofs.shell.laws.lines.Goals as goal

pub returns-clause-some : goal.returns-clause-some
returns-clause-some c l line = (items_of l (length line) line, are_items l line)

pub returns-clause-one : goal.returns-clause-one
returns-clause-one c = one_list

pub returns-clause-one_fault : goal.returns-clause-one_fault
returns-clause-one_fault c l line items h = words_or_fault l (length line) line items h
