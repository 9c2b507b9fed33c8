use Rattle.std.proofs.Common.{length, refl, subst}
use Rattle.std.proofs.lemmas.Bool.{true≢false}
use Rattle.memchr.specs.Find.{NoneBefore, Nowhere, Passes, is_byte2}
use Rattle.platform_str.specs.Strings.{bytes}
use Rattle.os_command_line.proofs.lemmas.WindowsChecks.{no_blank_there, blank_there}
use Rattle.osbytes_c.proofs.lines.windows_quote.has_blank.Goals as goal

pub returns-in-Some : goal.returns-in-Some
returns-in-Some c =
    let found = subst (λ b. NoneBefore (Passes (is_byte2 0x20 0x09) b) 0 (length b) c.in-Some.field-0 × Passes (is_byte2 0x20 0x09) b c.in-Some.field-0) c.as_encoded_bytes.ensures.value c.in-Some.ensures in
    (λ e. absurd (true≢false e), λ all. absurd (blank_there (bytes c.args.string) c.args.string.ok c.in-Some.field-0 found.0.high found.1 all))

pub returns-in-None : goal.returns-in-None
returns-in-None c = (λ _. no_blank_there (bytes c.args.string) c.args.string.ok (subst (λ b. Nowhere (Passes (is_byte2 0x20 0x09) b) 0 (length b)) c.as_encoded_bytes.ensures.value c.in-None.ensures), λ _. refl)
