use Rattle.std.proofs.Common.{true, refl, sym, ap, ◌∙◌, ◌++◌, codes, append_assoc}
use Rattle.std.proofs.Output.{has_written_styled_append, has_written_styled_of_eq}
use Rattle.std.specs.Char.{encode_utf8}
use Rattle.os_args.specs.Kinds.{kind_of}
use Rattle.os_args.specs.ErrorText.{shown, word_debug}
use Rattle.os_args.proofs.lemmas.Plain.{plainly}
use Rattle.os_args.proofs.shown.WordOsStrDebug.fmt.Goals as goal

pub returns-in-Long : goal.returns-in-Long
returns-in-Long g c = record { writes = λ plain ok. plainly plain (has_written_styled_of_eq _ _ _ _ _ (ap (λ s. codes "Long(\"" ++ (shown g.E.Platform.units s ++ codes "\")")) c.new.ensures ∙ sym (ap (λ w. word_debug g.E.Platform.units (kind_of w)) c.in-Long.is)) (c.write_between.ensures plain.flush ok)) }

pub returns-in-LongBytes : goal.returns-in-LongBytes
returns-in-LongBytes g c = record { writes = λ plain ok. plainly plain (has_written_styled_of_eq _ _ _ _ _ (sym (ap (λ w. word_debug g.E.Platform.units (kind_of w)) c.in-LongBytes.is)) (c.write_between-in-LongBytes.ensures plain.flush ok)) }

pub returns-in-ShortBytes : goal.returns-in-ShortBytes
returns-in-ShortBytes g c = record { writes = λ plain ok. plainly plain (has_written_styled_of_eq _ _ _ _ _ (sym (ap (λ w. word_debug g.E.Platform.units (kind_of w)) c.in-ShortBytes.is)) (c.write_between-in-ShortBytes.ensures plain.flush ok)) }

pub returns-in-Value : goal.returns-in-Value
returns-in-Value g c = record { writes = λ plain ok. plainly plain (has_written_styled_of_eq _ _ _ _ _ (sym (ap (λ w. word_debug g.E.Platform.units (kind_of w)) c.in-Value.is)) (c.write_between-in-Value.ensures plain.flush ok)) }

pub returns-in_ok-write_flag-in-Short : goal.returns-in_ok-write_flag-in-Short
returns-in_ok-write_flag-in-Short g c = record {
  writes = λ plain ok.
      let head = c.in_ok-write_flag-in-Short.ensures plain.flush (refl {a = true}) in
      let end = c.write_str.ensures.styled head.flush ok in
      let flag = shown g.E.Platform.units (encode_utf8 c.in-Short.flag) in
      let texts = append_assoc (codes "Short('") flag (codes "')") ∙ sym (ap (λ w. word_debug g.E.Platform.units (kind_of w)) c.in-Short.is) in
      plainly plain (has_written_styled_of_eq _ _ _ _ _ texts (has_written_styled_append _ _ _ _ _ _ head end));
}
