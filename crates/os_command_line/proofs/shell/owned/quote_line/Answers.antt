use Rattle.std.proofs.Common.{rules}
use Rattle.platform_str.specs.Strings.{bytes, string_vec_of}
use Rattle.os_command_line.specs.ShellWriting.{IsLineWord}
use Rattle.os_command_line.proofs.lemmas.CharsetSymbols.{line_text}
use Rattle.os_command_line.proofs.lemmas.ShellOnLine.{line_word_reads, line_stays}
use Rattle.os_command_line.proofs.shell.owned.quote_line.Goals as goal

pub returns-clause-read : goal.returns-clause-read
returns-clause-read g c l d =
    let e : IsLineWord (bytes c.args.name) (string_vec_of c.unix_string.result).items = search rules in
    line_word_reads l (bytes c.args.name) (string_vec_of c.unix_string.result).items d c.args.name.ok c.in_ok-push_word_line.ensures.no_nul e

pub returns-clause-characters : goal.returns-clause-characters
returns-clause-characters g c l d =
    let e : IsLineWord (bytes c.args.name) (string_vec_of c.unix_string.result).items = search rules in
    line_text l (bytes c.args.name) (string_vec_of c.unix_string.result).items d c.args.name.ok c.in_ok-push_word_line.ensures.no_nul e

pub returns-clause-stays : goal.returns-clause-stays
returns-clause-stays g c =
    let e : IsLineWord (bytes c.args.name) (string_vec_of c.unix_string.result).items = search rules in
    line_stays (bytes c.args.name) (string_vec_of c.unix_string.result).items c.args.name.ok e
