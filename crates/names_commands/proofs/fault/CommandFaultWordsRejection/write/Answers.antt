use Rattle.std.proofs.Common.{true, refl, sym, ap}
use Rattle.std.proofs.Output.{has_written_styled_append, has_written_styled_of_eq}
use Rattle.names_commands.specs.Fault.{words_text}
use Rattle.names_commands.proofs.fault.CommandFaultWordsRejection.write.Goals as goal

pub returns-in_ok-write_number-in-NoFile : goal.returns-in_ok-write_number-in-NoFile
returns-in_ok-write_number-in-NoFile g c = λ flush ok.
    let head = c.in_ok-write_str-in-NoFile.ensures.styled flush (refl {a = true}) in
    let number = c.in_ok-write_number-in-NoFile.ensures head.flush (refl {a = true}) in
    let tail = c.write_str-in-NoFile-2.ensures.styled number.flush ok in
    has_written_styled_of_eq _ _ _ _ _ (sym (ap words_text c.in-NoFile.is)) (has_written_styled_append _ _ _ _ _ _ head (has_written_styled_append _ _ _ _ _ _ number tail))

pub returns-in_ok-write_number-in-Unread : goal.returns-in_ok-write_number-in-Unread
returns-in_ok-write_number-in-Unread g c = λ flush ok.
    let head = c.in_ok-write_str-in-Unread.ensures.styled flush (refl {a = true}) in
    let number = c.in_ok-write_number-in-Unread.ensures head.flush (refl {a = true}) in
    let tail = c.write_str-in-Unread-2.ensures.styled number.flush ok in
    has_written_styled_of_eq _ _ _ _ _ (sym (ap words_text c.in-Unread.is)) (has_written_styled_append _ _ _ _ _ _ head (has_written_styled_append _ _ _ _ _ _ number tail))

pub returns-in_ok-fmt-in-Pattern : goal.returns-in_ok-fmt-in-Pattern
returns-in_ok-fmt-in-Pattern g c = λ flush ok.
    let head = c.in_ok-fmt-in-Pattern.ensures.styled flush (refl {a = true}) in
    let tail = has_written_styled_of_eq _ _ _ _ _ c.as_str.ensures.value (c.write_str-in-Pattern.ensures.styled head.flush ok) in
    has_written_styled_of_eq _ _ _ _ _ (sym (ap words_text c.in-Pattern.is)) (has_written_styled_append _ _ _ _ _ _ head tail)

pub returns-in_ok-write_number-in-NoPatternFile : goal.returns-in_ok-write_number-in-NoPatternFile
returns-in_ok-write_number-in-NoPatternFile g c = λ flush ok.
    let head = c.in_ok-write_str-in-NoPatternFile.ensures.styled flush (refl {a = true}) in
    let number = c.in_ok-write_number-in-NoPatternFile.ensures head.flush (refl {a = true}) in
    let tail = c.write_str-in-NoPatternFile-2.ensures.styled number.flush ok in
    has_written_styled_of_eq _ _ _ _ _ (sym (ap words_text c.in-NoPatternFile.is)) (has_written_styled_append _ _ _ _ _ _ head (has_written_styled_append _ _ _ _ _ _ number tail))

pub returns-in_ok-write_number-in-UnreadPatternFile : goal.returns-in_ok-write_number-in-UnreadPatternFile
returns-in_ok-write_number-in-UnreadPatternFile g c = λ flush ok.
    let head = c.in_ok-write_str-in-UnreadPatternFile.ensures.styled flush (refl {a = true}) in
    let number = c.in_ok-write_number-in-UnreadPatternFile.ensures head.flush (refl {a = true}) in
    let tail = c.write_str-in-UnreadPatternFile-2.ensures.styled number.flush ok in
    has_written_styled_of_eq _ _ _ _ _ (sym (ap words_text c.in-UnreadPatternFile.is)) (has_written_styled_append _ _ _ _ _ _ head (has_written_styled_append _ _ _ _ _ _ number tail))

pub returns-in_ok-fmt-in-LinePattern : goal.returns-in_ok-fmt-in-LinePattern
returns-in_ok-fmt-in-LinePattern g c = λ flush ok.
    let place = c.in_ok-write_line-in-LinePattern.ensures flush (refl {a = true}) in
    let head = c.in_ok-fmt-in-LinePattern.ensures.styled place.flush (refl {a = true}) in
    let tail = has_written_styled_of_eq _ _ _ _ _ c.as_str-in-LinePattern.ensures.value (c.write_str-in-LinePattern.ensures.styled head.flush ok) in
    has_written_styled_of_eq _ _ _ _ _ (sym (ap words_text c.in-LinePattern.is)) (has_written_styled_append _ _ _ _ _ _ place (has_written_styled_append _ _ _ _ _ _ head tail))

pub returns-in_ok-write_line-in-LineNoString : goal.returns-in_ok-write_line-in-LineNoString
returns-in_ok-write_line-in-LineNoString g c = λ flush ok.
    let place = c.in_ok-write_line-in-LineNoString.ensures flush (refl {a = true}) in
    let tail = c.fmt-in-LineNoString.ensures.styled place.flush ok in
    has_written_styled_of_eq _ _ _ _ _ (sym (ap words_text c.in-LineNoString.is)) (has_written_styled_append _ _ _ _ _ _ place tail)
