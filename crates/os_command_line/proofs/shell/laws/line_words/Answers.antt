use Rattle.std.proofs.Common.{sym, subst, ◌<◌}
use Rattle.std.proofs.lemmas.List.Elements.{All-from_recursion}
use Rattle.os_command_line.specs.Shell.{IsTextOf}
use Rattle.os_command_line.proofs.lemmas.ShellDollar.{dollar_is}
use Rattle.os_command_line.proofs.lemmas.ShellOnLine.{line_word_stays, one_line_name}
use Rattle.os_command_line.proofs.lemmas.ShellRoundTrip.{word_is_text}
use Rattle.os_command_line.proofs.shell.laws.line_words.Goals as goal

pub returns-clause-shown : goal.returns-clause-shown
returns-clause-shown c l name text w t is = subst (λ z. IsTextOf l z name) (sym (is.shown t)) (word_is_text l name w)

pub returns-clause-hidden : goal.returns-clause-hidden
returns-clause-hidden c l name text d w n t is = dollar_is l name text d (All-from_recursion (λ b. b < 0x100) name w) n (is.hidden t)

pub returns-clause-stays : goal.returns-clause-stays
returns-clause-stays c = line_word_stays

pub returns-clause-one_name : goal.returns-clause-one_name
returns-clause-one_name c = one_line_name
