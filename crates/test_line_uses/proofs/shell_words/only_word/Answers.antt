use Rattle.std.proofs.Common.{false, [], ◌∷◌}
use Rattle.std.specs.Prelude.{Ok}
use Rattle.platform_str.specs.Strings.{bytes}
use Rattle.os_command_line.specs.Shell.{language}
use Rattle.os_command_line.specs.ShellViews.{is_refused}
use Rattle.test_line_uses.proofs.shell_words.only_word.Goals as goal

pub returns : goal.returns
returns c name is =
    let l = language (is_refused c.args.specials) false in
    c.lines.ensures.one l (bytes c.args.line) c.new.result (Ok name ∷ []) c.new.ensures (c.words.ensures.alone l (bytes c.args.line) name is)
