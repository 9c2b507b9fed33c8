use Rattle.std.proofs.Common.{sym, subst}
use Rattle.std.proofs.lemmas.List.Elements.{recursion_from_All}
use Rattle.wtf8_core.specs.Byte.{IsByte}
use Rattle.platform_str.specs.Strings.{bytes, string_vec_of}
use Rattle.os_command_line.specs.ShellWriting.{IsLineWord}
use Rattle.test_line_uses.proofs.shell_words.two_line_words.Goals as goal

pub returns : goal.returns
returns g c same =
    let a = bytes c.args.first in
    let b = bytes c.args.second in
    c.line_words.ensures.one_name (string_vec_of c.in_ok-one.one).items a b (recursion_from_All IsByte a c.args.first.ok) c.in_ok-one.ensures.no_nul (recursion_from_All IsByte b c.args.second.ok) c.in_ok-other.ensures.no_nul c.in_ok-one.ensures.word
    (subst (λ text. IsLineWord b text) (sym same) c.in_ok-other.ensures.word)
