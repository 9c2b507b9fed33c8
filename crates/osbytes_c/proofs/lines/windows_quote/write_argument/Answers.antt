use Rattle.std.proofs.Common.{◌∙◌, sym}
use Rattle.std.proofs.lemmas.Bool.{true≢false}
use Rattle.wtf8_core.specs.UnitsOf.{units_of}
use Rattle.platform_str.specs.Strings.{bytes}
use Rattle.os_command_line.proofs.lemmas.WindowsStrings.{no_units, no_bytes}
use Rattle.osbytes_c.proofs.lemmas.ArgumentWriting.{bare_in_buffer, quoted_text}
use Rattle.osbytes_c.proofs.lines.windows_quote.write_argument.Goals as goal

pub returns-then-is_empty : goal.returns-then-is_empty
returns-then-is_empty c = quoted_text (units_of (bytes c.args.argument)) _ _ _ (λ plain. plain.some (no_units (bytes c.args.argument) c.args.argument.ok (c.is_empty.ensures.0 c.if-is_empty.true))) c.write_quoted.ensures

pub returns-then-has_blank : goal.returns-then-has_blank
returns-then-has_blank c = quoted_text (units_of (bytes c.args.argument)) _ _ _ (λ plain. true≢false (sym c.if-has_blank.true ∙ c.has_blank.ensures.1 plain.no_blank)) c.write_quoted-then-has_blank.ensures

pub returns : goal.returns
returns c = bare_in_buffer (units_of (bytes c.args.argument)) _ _ _ _ c.push_units-count.ensures (λ none. true≢false (sym (c.is_empty.ensures.1 (no_bytes (bytes c.args.argument) c.args.argument.ok none)) ∙ c.if-is_empty.false))
