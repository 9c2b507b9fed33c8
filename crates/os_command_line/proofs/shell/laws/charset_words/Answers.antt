use Rattle.os_command_line.proofs.lemmas.CharsetLines.{first_is_text, names_read}
use Rattle.os_command_line.proofs.lemmas.CharsetOneReading.{one_word}
use Rattle.os_command_line.proofs.lemmas.CharsetQuotes.{word_is}
use Rattle.os_command_line.proofs.lemmas.CharsetSymbols.{line_is, shown_is}
use Rattle.os_command_line.proofs.shell.laws.charset_words.Goals as goal

pub returns-clause-read : goal.returns-clause-read
returns-clause-read c = word_is

pub returns-clause-first : goal.returns-clause-first
returns-clause-first c = first_is_text

pub returns-clause-shown : goal.returns-clause-shown
returns-clause-shown c = shown_is

pub returns-clause-line : goal.returns-clause-line
returns-clause-line c = line_is

pub returns-clause-joined : goal.returns-clause-joined
returns-clause-joined c = names_read

pub returns-clause-one : goal.returns-clause-one
returns-clause-one c = one_word
