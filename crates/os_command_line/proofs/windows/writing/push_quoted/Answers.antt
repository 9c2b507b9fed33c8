use Rattle.std.proofs.Common.{[], sym, ◌∙◌, append-nil}
use Rattle.os_command_line.proofs.lemmas.WindowsWriting.{grown_on, marked_new}
use Rattle.os_command_line.proofs.windows.writing.push_quoted.Goals as goal

pub returns-clause-written : goal.returns-clause-written
returns-clause-written g c = marked_new _ _ _ _ _ c.in_ok-run.run' _ c.in_ok-push_one.ensures.pushed c.in_ok-run.ensures.written c.in_ok-push_backslashes.ensures.pushed c.in_ok-push_one-2.ensures.pushed

pub returns-in_err-push_one-clause-grows : goal.returns-in_err-push_one-clause-grows
returns-in_err-push_one-clause-grows g c = ([], c.in_err-push_one.ensures.unchanged ∙ sym (append-nil _))

pub returns-in_err-run-clause-grows : goal.returns-in_err-run-clause-grows
returns-in_err-run-clause-grows g c = grown_on _ _ _ (_, c.in_ok-push_one.ensures.pushed) c.push_units.ensures.grows

pub returns-in_err-push_backslashes-clause-grows : goal.returns-in_err-push_backslashes-clause-grows
returns-in_err-push_backslashes-clause-grows g c = grown_on _ _ _ (grown_on _ _ _ (_, c.in_ok-push_one.ensures.pushed) c.push_units.ensures.grows) c.push_backslashes.ensures.grows

pub returns-in_err-push_one-2-clause-grows : goal.returns-in_err-push_one-2-clause-grows
returns-in_err-push_one-2-clause-grows g c =
    let before = grown_on _ _ _ (grown_on _ _ _ (_, c.in_ok-push_one.ensures.pushed) c.push_units.ensures.grows) c.push_backslashes.ensures.grows in
    (before.0, c.in_err-push_one-2.ensures.unchanged ∙ before.1)

pub returns-clause-grows : goal.returns-clause-grows
returns-clause-grows g c = grown_on _ _ _ (grown_on _ _ _ (grown_on _ _ _ (_, c.in_ok-push_one.ensures.pushed) c.push_units.ensures.grows) c.push_backslashes.ensures.grows) (_, c.in_ok-push_one-2.ensures.pushed)
