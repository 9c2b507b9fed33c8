use Rattle.std.proofs.Common.{[], ◌++◌, refl, subst, append-nil, false}
use Rattle.os_command_line.specs.Windows.{Begins, Reads}
use Rattle.os_command_line.proofs.lemmas.WindowsOneReading.{one_reading}
use Rattle.os_command_line.proofs.windows.laws.texts.Goals as goal

pub returns-clause-one : goal.returns-clause-one
returns-clause-one c text a b p q = (one_reading [] [] (text ++ []) a b (p [] tt).1 (q [] tt).1).0

pub returns-clause-alone : goal.returns-clause-alone
returns-clause-alone c text argument p =
    let one = p [] tt in
    ([], record { blanks = []; text = text; joined = refl; are_blanks = tt; begins = subst Begins (append-nil text) one.0; reads = subst (λ z. Reads [] false z argument) (append-nil text) one.1 }, tt)
