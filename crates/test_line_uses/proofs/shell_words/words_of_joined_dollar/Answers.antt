use Rattle.std.proofs.Common.{true, [], ◌∷◌, sym, subst}
use Rattle.std.specs.Prelude.{Ok, codes}
use Rattle.platform_str.specs.Strings.{bytes}
use Rattle.os_command_line.specs.Shell.{IsRead, language}
use Rattle.os_command_line.specs.ShellViews.{is_refused}
use Rattle.test_line_uses.proofs.LinesRead.{joined_dollar}
use Rattle.test_line_uses.proofs.shell_words.words_of_joined_dollar.Goals as goal

pub returns : goal.returns
returns c is =
    let refuses = is_refused c.args.specials in
    let items = Ok (codes "a") ∷ [] in
    c.lines.ensures.one (language refuses true) (bytes c.args.line) c.with_dollar_quotes.result items c.with_dollar_quotes.ensures (subst (λ line. IsRead (language refuses true) line items) (sym is) (joined_dollar refuses))
