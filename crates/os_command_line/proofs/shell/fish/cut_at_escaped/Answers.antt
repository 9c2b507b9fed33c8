use Rattle.std.proofs.Common.{◌≡◌, ◌+◌, ◌-◌, length, take, drop, get_or, sym, subst, arith, length-drop}
use Rattle.std.proofs.lemmas.List.{take_all}
use Rattle.os_command_line.specs.ShellSteps.{IsCutAtEscaped}
use Rattle.os_command_line.proofs.lemmas.ShellForms.{none_escaped, escaped_found}
use Rattle.os_command_line.proofs.shell.fish.cut_at_escaped.Goals as goal

pub returns-in_default : goal.returns-in_default
returns-in_default c = none_escaped c.args.bytes.now c.in_default.ensures

pub returns : goal.returns
returns c =
    let bytes = c.args.bytes.now in
    let i = c.in-Some.at in
    let after = drop (i + 1) bytes in
    let whole : take (length bytes - (i + 1)) after ≡ after = take_all (length bytes - (i + 1)) after (omega (arith, length-drop (i + 1) bytes)) in
    subst (IsCutAtEscaped bytes (take i bytes) (get_or bytes i 0)) (sym whole) (escaped_found bytes i c.in-Some.ensures)
