use Rattle.os_ignore.proofs.lemmas.Parts.{one_piece, first_piece}
use Rattle.os_ignore.proofs.component.split_piece.Goals as goal

pub returns-in-Some-clause-parts : goal.returns-in-Some-clause-parts
returns-in-Some-clause-parts c = first_piece _ _ _ _ c.in-Some.ensures.cut

pub returns-in-None-clause-parts : goal.returns-in-None-clause-parts
returns-in-None-clause-parts c = one_piece _ _ c.in-None.ensures.cut
