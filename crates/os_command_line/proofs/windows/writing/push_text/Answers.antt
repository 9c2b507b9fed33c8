use Rattle.std.proofs.Common.{[], ◌++◌, ◌∙◌, ap, sym, append-nil}
use Rattle.std.proofs.lemmas.Bool.{true≢false}
use Rattle.wtf8_core.specs.UnitsOf.{units_of}
use Rattle.platform_str.specs.Strings.{bytes}
use Rattle.os_command_line.specs.WindowsWriting.{argument_text}
use Rattle.os_command_line.proofs.lemmas.WindowsStrings.{no_units, no_bytes}
use Rattle.os_command_line.proofs.lemmas.WindowsWriting.{grown_from, text_bare, text_in_marks}
use Rattle.os_command_line.proofs.windows.writing.push_text.Goals as goal

pub returns-then-is_empty-clause-written : goal.returns-then-is_empty-clause-written
returns-then-is_empty-clause-written g c =
    let us = units_of (bytes c.args.argument) in
    let same = c.reserve.ensures.items in
    let text = text_in_marks us (λ some _. some (no_units (bytes c.args.argument) c.args.argument.ok (c.is_empty.ensures.0 c.if-is_empty.true))) in
    c.in_ok-push_quoted.ensures.written ∙ ap (λ z. c.reserve.new.self.items ++ z) (sym text) ∙ ap (λ z. z ++ argument_text us) same

pub returns-then-has_no_blank-clause-written : goal.returns-then-has_no_blank-clause-written
returns-then-has_no_blank-clause-written g c =
    let us = units_of (bytes c.args.argument) in
    let same = c.reserve.ensures.items in
    let text = text_bare us (λ none. true≢false (sym (c.is_empty.ensures.1 (no_bytes (bytes c.args.argument) c.args.argument.ok none)) ∙ c.if-is_empty.false)) (c.has_no_blank.ensures.0 c.if-has_no_blank.true) in
    c.in_ok-push_bare.ensures.written ∙ ap (λ z. c.reserve.new.self.items ++ z) (sym text) ∙ ap (λ z. z ++ argument_text us) same

pub returns-clause-written : goal.returns-clause-written
returns-clause-written g c =
    let us = units_of (bytes c.args.argument) in
    let same = c.reserve.ensures.items in
    let text = text_in_marks us (λ _ none. true≢false (sym (c.has_no_blank.ensures.1 none) ∙ c.if-has_no_blank.false)) in
    c.in_ok-push_quoted-2.ensures.written ∙ ap (λ z. c.reserve.new.self.items ++ z) (sym text) ∙ ap (λ z. z ++ argument_text us) same

pub returns-in_err-reserve-clause-grows : goal.returns-in_err-reserve-clause-grows
returns-in_err-reserve-clause-grows g c = ([], c.reserve.ensures.items ∙ sym (append-nil _))

pub returns-in_err-push_quoted-clause-grows : goal.returns-in_err-push_quoted-clause-grows
returns-in_err-push_quoted-clause-grows g c = grown_from _ _ _ c.reserve.ensures.items c.push_quoted.ensures.grows

pub returns-then-is_empty-clause-grows : goal.returns-then-is_empty-clause-grows
returns-then-is_empty-clause-grows g c = grown_from _ _ _ c.reserve.ensures.items c.push_quoted.ensures.grows

pub returns-in_err-push_bare-clause-grows : goal.returns-in_err-push_bare-clause-grows
returns-in_err-push_bare-clause-grows g c = grown_from _ _ _ c.reserve.ensures.items c.push_bare.ensures.grows

pub returns-then-has_no_blank-clause-grows : goal.returns-then-has_no_blank-clause-grows
returns-then-has_no_blank-clause-grows g c = grown_from _ _ _ c.reserve.ensures.items c.push_bare.ensures.grows

pub returns-in_err-push_quoted-2-clause-grows : goal.returns-in_err-push_quoted-2-clause-grows
returns-in_err-push_quoted-2-clause-grows g c = grown_from _ _ _ c.reserve.ensures.items c.push_quoted-2.ensures.grows

pub returns-clause-grows : goal.returns-clause-grows
returns-clause-grows g c = grown_from _ _ _ c.reserve.ensures.items c.push_quoted-2.ensures.grows
