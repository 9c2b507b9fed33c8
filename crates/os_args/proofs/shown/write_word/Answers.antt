use Rattle.std.proofs.Common.{◌++◌, codes, sym, ap, ◌∙◌}
use Rattle.std.proofs.Output.{has_written_styled_of_eq}
use Rattle.os_args.specs.Kinds.{kind_of}
use Rattle.os_args.specs.ErrorText.{shown, word_text}
use Rattle.os_args.proofs.shown.write_word.Goals as goal

pub returns-in-Long : goal.returns-in-Long
returns-in-Long g c = λ flush ok. has_written_styled_of_eq _ _ _ _ _
    (ap (λ x. codes "--" ++ shown g.E.Platform.units x) c.new.ensures ∙ sym (ap (λ w. word_text g.E.Platform.units (kind_of w)) c.in-Long.is))
    (c.write_after_prefix.ensures flush ok)

pub returns-in-LongBytes : goal.returns-in-LongBytes
returns-in-LongBytes g c = λ flush ok. has_written_styled_of_eq _ _ _ _ _ (sym (ap (λ w. word_text g.E.Platform.units (kind_of w)) c.in-LongBytes.is)) (c.write_after_prefix-in-LongBytes.ensures flush ok)

pub returns-in-Short : goal.returns-in-Short
returns-in-Short g c = λ flush ok. has_written_styled_of_eq _ _ _ _ _ (sym (ap (λ w. word_text g.E.Platform.units (kind_of w)) c.in-Short.is)) (c.write_flag.ensures flush ok)

pub returns-in-ShortBytes : goal.returns-in-ShortBytes
returns-in-ShortBytes g c = λ flush ok. has_written_styled_of_eq _ _ _ _ _ (sym (ap (λ w. word_text g.E.Platform.units (kind_of w)) c.in-ShortBytes.is)) (c.write_after_prefix-in-ShortBytes.ensures flush ok)

pub returns-in-Value : goal.returns-in-Value
returns-in-Value g c = λ flush ok. has_written_styled_of_eq _ _ _ _ _ (sym (ap (λ w. word_text g.E.Platform.units (kind_of w)) c.in-Value.is)) (c.write_string.ensures flush ok)
