use Rattle.std.proofs.Common.{◌≡◌, ◌+◌, ◌-◌, length, take, drop, get_or, sym, subst, arith, length-drop}
use Rattle.std.proofs.lemmas.List.{take_all}
use Rattle.os_command_line.specs.ShellSteps.{IsCutAtMarked}
use Rattle.os_command_line.proofs.lemmas.ShellForms.{none_marked, marked_found}
use Rattle.os_command_line.proofs.shell.write_word.cut_at_marked.Goals as goal

pub returns-in_default : goal.returns-in_default
returns-in_default c = none_marked c.args.bytes.now c.in_default.ensures

pub returns : goal.returns
returns c =
    let bytes = c.args.bytes.now in
    let i = c.in-Some.at in
    let after = drop (i + 1) bytes in
    let whole : take (length bytes - (i + 1)) after ≡ after = take_all (length bytes - (i + 1)) after (omega (arith, length-drop (i + 1) bytes)) in
    subst (IsCutAtMarked bytes (take i bytes) (get_or bytes i 0)) (sym whole) (marked_found bytes i c.in-Some.ensures)
