use Rattle.std.proofs.Common.{◌≡◌, ◌++◌, ◌∙◌, rules, true, refl, sym, ap}
use Rattle.std.specs.Prelude.{codes}
use Rattle.std.specs.Fmt.InlineText.{inline_text}
use Rattle.std.proofs.Output.{has_written_styled_append, has_written_styled_of_eq}
use Rattle.paths_commands.specs.Fault.{words_text}
use Rattle.paths_commands.proofs.fault.CommandFaultWordsRejection.write.Goals as goal

pub returns-in_ok-write_str-in-Misuse : goal.returns-in_ok-write_str-in-Misuse
returns-in_ok-write_str-in-Misuse g c = λ flush ok.
    let head = c.in_ok-write_str-in-Misuse.ensures.styled flush (refl {a = true}) in
    let tail = c.write_str-in-Misuse-2.ensures.styled head.flush ok in
    let text : c.as_str.result.now ≡ inline_text c.in-Misuse.text = search rules in
    has_written_styled_of_eq _ _ _ _ _ (ap (λ t. t ++ codes "; paths --help lists the commands") text ∙ sym (ap words_text c.in-Misuse.is)) (has_written_styled_append _ _ _ _ _ _ head tail)

pub returns-in_ok-write_str-in-PassedOver : goal.returns-in_ok-write_str-in-PassedOver
returns-in_ok-write_str-in-PassedOver g c = λ flush ok.
    let head = c.in_ok-write_str-in-PassedOver.ensures.styled flush (refl {a = true}) in
    let number = c.write_number.ensures head.flush ok in
    has_written_styled_of_eq _ _ _ _ _ (sym (ap words_text c.in-PassedOver.is)) (has_written_styled_append _ _ _ _ _ _ head number)
