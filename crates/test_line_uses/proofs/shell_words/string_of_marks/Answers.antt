use Rattle.std.proofs.Common.{◌≡◌, ◌≢◌, ◌∙◌, ◌∷◌, [], sym, subst}
use Rattle.std.specs.Prelude.{string_bytes}
use Rattle.std.specs.Char.{encode_utf8}
use Rattle.std.specs.List.{flat_map}
use Rattle.std.specs.Str.{chars}
use Rattle.platform_str.specs.Strings.{bytes}
use Rattle.os_command_line.specs.PowerShell.{IsPowerShellText, powershell_text}
use Rattle.test_line_uses.proofs.LinesRead.{of_ok, one_mark, never_one}
use Rattle.test_line_uses.proofs.shell_words.string_of_marks.Goals as goal

pub returns-in-Ok : goal.returns-in-Ok
returns-in-Ok c =
    let name = chars (bytes c.args.name) in
    let marks = flat_map encode_utf8 (0x27 ∷ 0x201B ∷ 0x201B ∷ 0x27 ∷ []) in
    of_ok (λ s. string_bytes s ≡ powershell_text c.in-Ok.quoted) (λ s. name ≡ 0x201B ∷ 0x201B ∷ [] → string_bytes s ≢ marks) c.to_string.result
    (λ s printed two equal. never_one name two (c.other_shells.ensures.powershell marks name (0x201B ∷ []) (subst (λ text. IsPowerShellText text name) (sym printed ∙ equal) c.in-Ok.ensures.text) one_mark))
    c.to_string.ensures.ok
