use Rattle.std.proofs.Common.{◌≡◌, ℕ, List, true, refl, sym, ap, ◌∙◌, ◌++◌, codes, append_assoc}
use Rattle.std.proofs.Output.{has_written_styled_append, has_written_styled_of_eq}
use Rattle.std.specs.Option.{option_map}
use Rattle.os_args.proofs.lemmas.Plain.{plainly}
use Rattle.platform_str.specs.Strings.{bytes}
use Rattle.os_args.specs.Kinds.{kind_of}
use Rattle.os_args.specs.ErrorText.{shown, after_text, fault_text}
use Rattle.os_args.specs.Views.{fault_of}
use Rattle.os_args.proofs.error.ArgumentErrorOsStrDisplay.fmt.Goals as goal

-- four texts, one after the other
in_turn : (a b c d : List ℕ) → (a ++ (b ++ c)) ++ d ≡ a ++ (b ++ (c ++ d))
in_turn a b c d = append_assoc a (b ++ c) d ∙ ap (λ t. a ++ t) (append_assoc b c d)

pub returns-in_ok-write_between-in-UnexpectedValue-clause-styled :
    goal.returns-in_ok-write_between-in-UnexpectedValue-clause-styled
returns-in_ok-write_between-in-UnexpectedValue-clause-styled g c = λ flush ok.
    let head = c.in_ok-write_between-in-UnexpectedValue.ensures flush (refl {a = true}) in
    let end = c.write_after.ensures head.flush ok in
    let units = g.E.Platform.units in
    let texts = in_turn (codes "unexpected value '") (shown units (bytes c.in-UnexpectedValue.value)) (codes "'") (after_text units (option_map kind_of c.in-UnexpectedValue.last)) in
    has_written_styled_of_eq _ _ _ _ _ (texts ∙ sym (ap (λ e. fault_text g.E.Platform.units (fault_of e)) c.in-UnexpectedValue.is))
    (has_written_styled_append _ _ _ _ _ _ head end)

pub returns-in_ok-write_str-in-MissingValue-clause-styled :
    goal.returns-in_ok-write_str-in-MissingValue-clause-styled
returns-in_ok-write_str-in-MissingValue-clause-styled g c = λ flush ok.
    let head = c.in_ok-write_str-in-MissingValue.ensures.styled flush (refl {a = true}) in
    let end = c.write_after-in-MissingValue.ensures head.flush ok in
    has_written_styled_of_eq _ _ _ _ _ (sym (ap (λ e. fault_text g.E.Platform.units (fault_of e)) c.in-MissingValue.is)) (has_written_styled_append _ _ _ _ _ _ head end)

pub returns-in-UnexpectedArgument-clause-styled : goal.returns-in-UnexpectedArgument-clause-styled
returns-in-UnexpectedArgument-clause-styled g c = λ flush ok. has_written_styled_of_eq _ _ _ _ _ (sym (ap (λ e. fault_text g.E.Platform.units (fault_of e)) c.in-UnexpectedArgument.is)) (c.write_word_between.ensures flush ok)

pub returns-in_ok-write_between-in-UnexpectedValue-clause-writes :
    goal.returns-in_ok-write_between-in-UnexpectedValue-clause-writes
returns-in_ok-write_between-in-UnexpectedValue-clause-writes g c = λ plain ok. plainly plain (returns-in_ok-write_between-in-UnexpectedValue-clause-styled g c plain.flush ok)

pub returns-in_ok-write_str-in-MissingValue-clause-writes :
    goal.returns-in_ok-write_str-in-MissingValue-clause-writes
returns-in_ok-write_str-in-MissingValue-clause-writes g c = λ plain ok. plainly plain (returns-in_ok-write_str-in-MissingValue-clause-styled g c plain.flush ok)

pub returns-in-UnexpectedArgument-clause-writes : goal.returns-in-UnexpectedArgument-clause-writes
returns-in-UnexpectedArgument-clause-writes g c = λ plain ok. plainly plain (returns-in-UnexpectedArgument-clause-styled g c plain.flush ok)
