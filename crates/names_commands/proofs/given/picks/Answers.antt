use Rattle.std.proofs.Common.{◌∷◌, inl, ap, ◌∙◌, subst}
use Rattle.list_programs.specs.Arguments.{operands_of}
use Rattle.names_commands.specs.Command.{HasOperands}
use Rattle.names_commands.proofs.given.picks.Goals as goal

pub returns-in-Some-next_operand-clause-misuse : goal.returns-in-Some-next_operand-clause-misuse
returns-in-Some-next_operand-clause-misuse c =
    let glob = c.in-Some.field-0-0.now in
    let operands = subst (HasOperands c.args.given.now c.args.command c.args.os) (c.in-Some.ensures ∙ ap (λ more. glob ∷ more) c.in-Some-next_operand.ensures) c.requires.operands in
    (c.in-Some-next_operand.word.now, ((c.args.command, c.args.os, operands_of c.in-Some-next_operand.field-0-1.now, inl (c.requires.takes, (glob, operands))), c.surplus.ensures))
