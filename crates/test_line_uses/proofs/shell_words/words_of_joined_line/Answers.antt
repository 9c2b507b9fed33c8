use Rattle.std.proofs.Common.{false, [], sym, subst}
use Rattle.platform_str.specs.Strings.{bytes}
use Rattle.os_command_line.specs.Shell.{IsRead, language}
use Rattle.os_command_line.specs.ShellViews.{is_refused}
use Rattle.test_line_uses.proofs.LinesRead.{joined_line}
use Rattle.test_line_uses.proofs.shell_words.words_of_joined_line.Goals as goal

pub returns : goal.returns
returns c is =
    let refuses = is_refused c.args.specials in
    c.lines.ensures.one (language refuses false) (bytes c.args.line) c.new.result [] c.new.ensures (subst (λ line. IsRead (language refuses false) line []) (sym is) (joined_line refuses))
