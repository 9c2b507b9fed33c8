use Rattle.std.proofs.Common.{◌≡◌, ◌+◌, ◌∷◌, [], length, map, subst, sym, ap, ◌∙◌, Some, Ok}
use Rattle.std.specs.Option.{option_map}
use Rattle.platform_str.specs.Strings.{bytes}
use Rattle.os_args.specs.Kinds.{kind_of}
use Rattle.os_args.specs.Reading.{TakesWord}
use Rattle.os_args.specs.Views.{reading}
use Rattle.os_args.specs.Word.{IsReadAs}
use Rattle.osbytes_c.specs.Options.{text_of, unread}
use Rattle.osbytes_c.proofs.lemmas.Options.{one_word, option_in, word_joined}
use Rattle.osbytes_c.proofs.options.first_in.Goals as goal

pub returns : goal.returns
returns c =
    let numbers = c.args.numbers in
    let word = c.args.word.now in
    let kind = kind_of c.in-Ok-Some.read in
    let after = reading c.next.new.self in
    let given : map bytes c.as_slice.result.now ≡ word ∷ [] = ap (map bytes) c.as_slice.ensures ∙ ap (λ z. z ∷ []) c.unix.ensures in
    let start : reading c.arguments_of-arguments.result ≡ unread numbers (word ∷ []) = c.arguments_of-arguments.ensures ∙ ap (unread numbers) given in
    let some = subst (λ given. TakesWord (reading c.arguments_of-arguments.result) (Ok (option_map kind_of given)) after) c.in-Ok-Some.field-0-is c.in-Ok-Some.ensures in
    let takes = subst (λ r. TakesWord r (Ok (Some kind)) after) start some in
    let reads = one_word numbers word c.requires kind after takes in
    let marked = word_joined numbers word kind after.pending reads in
    let span = c.span_of.ensures in
    option_in (IsReadAs numbers word) word marked.marks kind after.pending c.span_of.result reads marked.joined span.kind span.value (span.start ∙ c.marks_of.ensures.marks ∙ marked.many) (span.end ∙ ap (λ k. k + length (text_of kind)) (sym span.start))
