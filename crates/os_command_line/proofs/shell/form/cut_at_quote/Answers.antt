use Rattle.std.proofs.Common.{◌≡◌, ◌+◌, ◌-◌, length, take, drop, sym, subst, arith, length-drop}
use Rattle.std.proofs.lemmas.List.{take_all}
use Rattle.os_command_line.specs.ShellSteps.{IsCutAtQuote}
use Rattle.os_command_line.proofs.lemmas.ShellForms.{no_quote_found, quote_found}
use Rattle.os_command_line.proofs.shell.form.cut_at_quote.Goals as goal

pub returns-in_default : goal.returns-in_default
returns-in_default c = no_quote_found c.args.bytes.now c.in_default.ensures

pub returns : goal.returns
returns c =
    let bytes = c.args.bytes.now in
    let i = c.in-Some.at in
    let after = drop (i + 1) bytes in
    let whole : take (length bytes - (i + 1)) after ≡ after = take_all (length bytes - (i + 1)) after (omega (arith, length-drop (i + 1) bytes)) in
    subst (IsCutAtQuote bytes (take i bytes)) (sym whole) (quote_found bytes i c.in-Some.ensures)
