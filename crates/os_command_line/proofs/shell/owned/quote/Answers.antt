use Rattle.std.proofs.Common.{rules, ◌≡◌}
use Rattle.platform_str.specs.Strings.{bytes, string_vec_of}
use Rattle.os_command_line.specs.ShellWriting.{quoted_word}
use Rattle.os_command_line.proofs.lemmas.CharsetQuotes.{word_text}
use Rattle.os_command_line.proofs.lemmas.ShellOnLine.{word_reads}
use Rattle.os_command_line.proofs.shell.owned.quote.Goals as goal

pub returns-clause-read : goal.returns-clause-read
returns-clause-read g c l =
    let e : (string_vec_of c.unix_string.result).items ≡ quoted_word (bytes c.args.name) = search rules in
    word_reads l (bytes c.args.name) (string_vec_of c.unix_string.result).items c.args.name.ok e

pub returns-clause-characters : goal.returns-clause-characters
returns-clause-characters g c l =
    let e : (string_vec_of c.unix_string.result).items ≡ quoted_word (bytes c.args.name) = search rules in
    word_text l (bytes c.args.name) (string_vec_of c.unix_string.result).items c.args.name.ok e
