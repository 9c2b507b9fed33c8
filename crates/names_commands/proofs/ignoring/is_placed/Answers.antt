use Rattle.std.proofs.Common.{refl}
use Rattle.names_commands.proofs.lemmas.Placed.{placed_by, placed_whole}
use Rattle.names_commands.proofs.ignoring.is_placed.Goals as goal

pub returns-in-Some : goal.returns-in-Some
returns-in-Some c =
    let by = placed_by c.args.value.now c.in-Some.directory.now c.in-Some.field-0-1.now c.in-Some.ensures in
    (λ t. by.0 (c.is_inside.ensures.0 t), λ p. c.is_inside.ensures.1 (by.1 p))

pub returns-in-None : goal.returns-in-None
returns-in-None c = (λ t. placed_whole c.args.value.now c.in-None.ensures, λ p. refl)
