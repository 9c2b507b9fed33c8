use Rattle.std.proofs.Common.{sym, subst, true}
use Rattle.platform_str.specs.Strings.{bytes, string_vec_of}
use Rattle.os_command_line.specs.Shell.{IsTextOf, language}
use Rattle.test_line_uses.proofs.shell_words.two_words.Goals as goal

pub returns : goal.returns
returns g c same =
    let l = language true true in
    c.words.ensures.one l (string_vec_of c.in_ok-one.one).items (bytes c.args.first) (bytes c.args.second) (c.in_ok-one.ensures.read l)
    (subst (λ text. IsTextOf l text (bytes c.args.second)) (sym same) (c.in_ok-other.ensures.read l))
