use Rattle.std.proofs.Common.{[], refl}
use Rattle.std.proofs.lemmas.List.Elements.{All-nil}
use Rattle.wtf8_core.specs.Byte.{IsByte}
use Rattle.wtf8_core.specs.Table.{state_at}
use Rattle.osbytes_c.proofs.strings.checker.osb_core_start.Goals as goal

pub returns-clause-describes : goal.returns-clause-describes
unfolding state_at
returns-clause-describes c = record { are_bytes = All-nil IsByte; code_points = []; items = λ more. refl }
