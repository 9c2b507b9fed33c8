use Rattle.std.proofs.Common.{◌≡◌, ℕ, ◌≤◌, true, [], ◌∷◌, ◌++◌, refl, arith}
use Rattle.std.specs.Int.{is_in_range}
use Rattle.std.specs.Prelude.{IfOk, List}
use Rattle.std.proofs.lemmas.Bool.Decides.{nat_tests}
use Rattle.platform_str.specs.Strings.{bytes, string_vec_of}
use Rattle.os_command_line.specs.Charset.{double_byte}
use Rattle.os_command_line.specs.Shell.{language}
use Rattle.os_command_line.specs.ShellCharacters.{IsCharacterText, Reads}
use Rattle.os_command_line.specs.declared.shell.language.Language.{Language}
use Rattle.test_line_uses.proofs.LinesRead.{of_ok}
use Rattle.test_line_uses.proofs.shell_words.word_in_gbk.Goals as goal

high : (b : ℕ) → is_in_range 0x81 0xFE b ≡ true → 0x80 ≤ b
high b h = grind (arith, nat_tests)

past : (b : ℕ) → is_in_range 0x40 0xFE b ≡ true → 0x28 ≤ b
past b h = grind (arith, nat_tests)

pub returns : goal.returns
returns g c =
    let l = language true true in
    let leads = is_in_range 0x81 0xFE in
    let trails = is_in_range 0x40 0xFE in
    of_ok (λ word. (m : Language) → m.dollar_quotes ≡ true → IsCharacterText m (string_vec_of word).items (bytes c.args.name)) _ c.quote_line.result
    (λ word is read rest r.
    let text = (string_vec_of word).items ++ 0x20 ∷ [] in
    let own = is l refl (0x20 ∷ []) (double_byte leads trails text) refl (c.charsets.ensures.double leads trails high past text) in
    c.charset_words.ensures.one l (double_byte leads trails text) read (bytes c.args.name) rest own.rest r own.reads)
    c.quote_line.ensures.characters
