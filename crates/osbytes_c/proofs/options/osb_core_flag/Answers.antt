use Rattle.std.proofs.Common.{◌≡◌, ◌+◌, ◌≤◌, ◌++◌, length, take, drop, subst, sym, ap, ◌∙◌, arith, take-append-drop}
use Rattle.std.proofs.lemmas.List.{length-take-le}
use Rattle.platform_str.specs.Strings.{bytes}
use Rattle.os_args.specs.Kinds.{kind_of}
use Rattle.os_args.specs.Word.{IsFlag}
use Rattle.osbytes_c.specs.Options.{text_of}
use Rattle.osbytes_c.proofs.lemmas.Options.{flag_joined, option_in}
use Rattle.osbytes_c.proofs.options.osb_core_flag.Goals as goal

pub returns-clause-flag : goal.returns-clause-flag
returns-clause-flag c = λ _.
    let word = c.args.word.now in
    let at = c.args.at in
    let kind = kind_of c.first_flag.result in
    let rest = c.first_flag.ensures.0 in
    let left : bytes c.unix-flags.result ≡ drop at word = c.unix-flags.ensures ∙ c.split_at.ensures.back in
    let flag : IsFlag (drop at word) kind rest = subst (λ z. IsFlag z kind rest) left c.first_flag.ensures.1 in
    let within : at ≤ length word = omega (arith, c.if-at-word.false) in
    let joined = sym (take-append-drop at word) ∙ ap (λ z. take at word ++ z) (flag_joined (drop at word) kind rest flag) in
    let span = c.span_of.ensures in
    (option_in (IsFlag (drop at word)) word (take at word) kind rest c.span_of.result flag joined span.kind span.value (span.start ∙ sym (length-take-le at word within)) (span.end ∙ ap (λ k. k + length (text_of kind)) (sym span.start)), span.start)
