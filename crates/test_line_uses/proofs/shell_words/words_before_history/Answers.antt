use Rattle.std.proofs.Common.{true, false, [], ◌∷◌, sym, subst}
use Rattle.std.specs.Prelude.{Ok, Err, codes}
use Rattle.platform_str.specs.Strings.{bytes}
use Rattle.os_command_line.specs.Shell.{IsRead, language}
use Rattle.test_line_uses.specs.Faults.{special_at}
use Rattle.test_line_uses.proofs.LinesRead.{before_history}
use Rattle.test_line_uses.proofs.shell_words.words_before_history.Goals as goal

pub returns : goal.returns
returns c is =
    let items = Ok (codes "a") ∷ Err (special_at 2) ∷ [] in
    c.lines.ensures.one (language true false) (bytes c.args.line) c.new.result items c.new.ensures (subst (λ line. IsRead (language true false) line items) (sym is) before_history)
