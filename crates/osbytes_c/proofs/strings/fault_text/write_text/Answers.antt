use Rattle.std.proofs.Common.{◌≡◌, ◌++◌, ◌∙◌, [], List, ℕ, subst, sym, ap, append_assoc}
use Rattle.std.specs.Prelude.{codes}
use Rattle.std.specs.Fmt.{decimal}
use Rattle.wtf8_core.specs.FaultText.{fault_text, not_representable, upper_hex}
use Rattle.wtf8_core.specs.declared.fault.EncodingError.TheVariants.{Utf8}
use Rattle.wtf8_core.specs.Truncated.{IsTruncated}
use Rattle.wtf8_core.proofs.lemmas.buffers.Truncated.{none_yet}
use Rattle.osbytes_c.proofs.strings.fault_text.write_text.Goals as goal

three : (a b c : List ℕ) → (a ++ b) ++ c ≡ a ++ (b ++ c)
three a b c = append_assoc a b c

four : (a b c d : List ℕ) → ((a ++ b) ++ c) ++ d ≡ a ++ (b ++ (c ++ d))
four a b c d = append_assoc (a ++ b) c d ∙ append_assoc a b (c ++ d)

pub returns-in-Byte : goal.returns-in-Byte
returns-in-Byte c =
    let old = c.args.out.now in
    let all = c.push_truncated.ensures.written _ old (c.push_hex-at.ensures.written _ old (c.push_truncated-at-in-Byte.ensures.written _ old (c.push_truncated-at.ensures.written [] old (none_yet old)))) in
    subst (λ t. IsTruncated t old c.push_truncated.new.buffer c.push_truncated.result) (four not_representable (codes "byte b'\\x") (upper_hex 2 c.from.result) (codes "'") ∙ ap (λ x. not_representable ++ (codes "byte b'\\x" ++ (upper_hex 2 x ++ codes "'"))) c.from.ensures ∙ ap fault_text (sym c.in-Byte.is)) all

pub returns-in-CodePoint : goal.returns-in-CodePoint
returns-in-CodePoint c =
    let old = c.args.out.now in
    let all = c.push_hex.ensures.written _ old (c.push_truncated-at-in-CodePoint-2.ensures.written _ old (c.push_truncated-at-in-CodePoint.ensures.written [] old (none_yet old))) in
    subst (λ t. IsTruncated t old c.push_hex.new.out c.push_hex.result) (three not_representable (codes "code point U+") (upper_hex c.code_point_digits.result c.in-CodePoint.value) ∙ ap (λ x. not_representable ++ (codes "code point U+" ++ upper_hex x c.in-CodePoint.value)) c.code_point_digits.ensures.value ∙ ap fault_text (sym c.in-CodePoint.is)) all

pub returns-in-End : goal.returns-in-End
returns-in-End c =
    let old = c.args.out.now in
    let all = c.push_truncated-in-End.ensures.written _ old (c.push_truncated-at-in-End.ensures.written [] old (none_yet old)) in
    subst (λ t. IsTruncated t old c.push_truncated-in-End.new.buffer c.push_truncated-in-End.result) (ap fault_text (sym c.in-End.is)) all

pub returns-in-Some : goal.returns-in-Some
returns-in-Some c =
    let old = c.args.out.now in
    let at = c.in-Utf8.valid_up_to in
    let all = c.push_decimal.ensures.written _ old (c.push_truncated-at-in-Some-2.ensures.written _ old (c.push_decimal-at.ensures.written _ old (c.push_truncated-at-in-Some.ensures.written [] old (none_yet old)))) in
    let is = c.in-Utf8.is ∙ ap (Utf8 at) c.in-Some.is in
    subst (λ t. IsTruncated t old c.push_decimal.new.out c.push_decimal.result) (four (codes "invalid utf-8 sequence of ") (decimal c.from-in-Some.result) (codes " bytes from index ") (decimal at) ∙ ap (λ x. codes "invalid utf-8 sequence of " ++ (decimal x ++ (codes " bytes from index " ++ decimal at))) c.from-in-Some.ensures ∙ ap fault_text (sym is)) all

pub returns-in-None : goal.returns-in-None
returns-in-None c =
    let old = c.args.out.now in
    let at = c.in-Utf8.valid_up_to in
    let all = c.push_decimal-in-None.ensures.written _ old (c.push_truncated-at-in-None.ensures.written [] old (none_yet old)) in
    let is = c.in-Utf8.is ∙ ap (Utf8 at) c.in-None.is in
    subst (λ t. IsTruncated t old c.push_decimal-in-None.new.out c.push_decimal-in-None.result) (ap fault_text (sym is)) all
