use Rattle.std.proofs.Common.{[]}
use Rattle.os_ignore.proofs.lemmas.Parts.{last_of_cut, one_piece}
use Rattle.os_ignore.proofs.component.last_component.Goals as goal

pub returns-in-Some : goal.returns-in-Some
returns-in-Some c = (_, last_of_cut _ _ _ _ c.in-Some.ensures.0 c.in-Some.ensures.1)

pub returns-in-None : goal.returns-in-None
returns-in-None c = ([], one_piece _ _ c.in-None.ensures)
