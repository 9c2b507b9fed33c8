use Rattle.std.proofs.Common.{map, sym, subst, true}
use Rattle.os_command_line.specs.Shell.{IsTextOf, language}
use Rattle.os_command_line.specs.ShellWriting.{quoted_word}
use Rattle.os_command_line.proofs.lemmas.ShellRoundTrip.{word_is_text, one_word, alone_read, joined_read, line_read, quoted_texts}
use Rattle.os_command_line.proofs.shell.laws.words.Goals as goal

pub returns-clause-read : goal.returns-clause-read
returns-clause-read c = word_is_text

pub returns-clause-one : goal.returns-clause-one
returns-clause-one c = one_word

pub returns-clause-one_name : goal.returns-clause-one_name
returns-clause-one_name c a b v w e =
    let l = language true true in
    one_word l (quoted_word a) a b (word_is_text l a v) (subst (λ z. IsTextOf l z b) (sym e) (word_is_text l b w))

pub returns-clause-joined : goal.returns-clause-joined
returns-clause-joined c l names w = joined_read l (map quoted_word names) names (quoted_texts l names w)

pub returns-clause-alone : goal.returns-clause-alone
returns-clause-alone c = alone_read

pub returns-clause-line : goal.returns-clause-line
returns-clause-line c = line_read
