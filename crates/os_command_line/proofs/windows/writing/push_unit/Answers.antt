use Rattle.std.proofs.Common.{◌∷◌, ◌++◌, ◌+◌, [], ◌∙◌, ap, sym, arith, append_assoc, append-nil}
use Rattle.os_command_line.specs.Windows.{backslashes}
use Rattle.os_command_line.proofs.lemmas.WindowsWriting.{grown_on, added_slash, added_quote, added_literal}
use Rattle.os_command_line.proofs.windows.writing.push_unit.Goals as goal

pub returns-then-unit-eq-BACKSLASH-clause-added : goal.returns-then-unit-eq-BACKSLASH-clause-added
returns-then-unit-eq-BACKSLASH-clause-added g c = (c.args.unit ∷ [], c.in_ok-push_one.ensures.pushed, added_slash c.args.inside c.args.run c.args.unit c.if-unit-eq-BACKSLASH.true, omega arith)

pub returns-then-unit-eq-QUOTE-clause-added : goal.returns-then-unit-eq-QUOTE-clause-added
returns-then-unit-eq-QUOTE-clause-added g c = (
  backslashes (c.args.run + 1) ++ c.args.unit ∷ [],
  c.in_ok-push_one-2.ensures.pushed ∙ ap (λ z. z ++ c.args.unit ∷ []) c.in_ok-push_backslashes.ensures.pushed ∙ append_assoc c.args.line.now.items (backslashes (c.args.run + 1)) (c.args.unit ∷ []),
  added_quote c.args.inside c.args.run c.args.unit c.if-unit-eq-QUOTE.true,
  omega arith,
)

pub returns-clause-added : goal.returns-clause-added
returns-clause-added g c = (c.args.unit ∷ [], c.in_ok-push_one-3.ensures.pushed, added_literal c.args.inside c.args.run c.args.unit c.if-unit-eq-BACKSLASH.false c.if-unit-eq-QUOTE.false c.requires.no_blank, omega arith)

pub returns-in_err-push_one-clause-grows : goal.returns-in_err-push_one-clause-grows
returns-in_err-push_one-clause-grows g c = ([], c.in_err-push_one.ensures.unchanged ∙ sym (append-nil _))

pub returns-then-unit-eq-BACKSLASH-clause-grows : goal.returns-then-unit-eq-BACKSLASH-clause-grows
returns-then-unit-eq-BACKSLASH-clause-grows g c = (_, c.in_ok-push_one.ensures.pushed)

pub returns-in_err-push_backslashes-clause-grows : goal.returns-in_err-push_backslashes-clause-grows
returns-in_err-push_backslashes-clause-grows g c = c.push_backslashes.ensures.grows

pub returns-in_err-push_one-2-clause-grows : goal.returns-in_err-push_one-2-clause-grows
returns-in_err-push_one-2-clause-grows g c =
    let before = c.push_backslashes.ensures.grows in
    (before.0, c.in_err-push_one-2.ensures.unchanged ∙ before.1)

pub returns-then-unit-eq-QUOTE-clause-grows : goal.returns-then-unit-eq-QUOTE-clause-grows
returns-then-unit-eq-QUOTE-clause-grows g c = grown_on _ _ _ c.push_backslashes.ensures.grows (_, c.in_ok-push_one-2.ensures.pushed)

pub returns-in_err-push_one-3-clause-grows : goal.returns-in_err-push_one-3-clause-grows
returns-in_err-push_one-3-clause-grows g c = ([], c.in_err-push_one-3.ensures.unchanged ∙ sym (append-nil _))

pub returns-clause-grows : goal.returns-clause-grows
returns-clause-grows g c = (_, c.in_ok-push_one-3.ensures.pushed)
