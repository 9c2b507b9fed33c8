use Rattle.std.proofs.Common.{inr, subst}
use Rattle.list_programs.specs.Arguments.{operands_of}
use Rattle.names_commands.specs.Command.{HasOperands}
use Rattle.names_commands.proofs.fitting.no_operand.Goals as goal

pub returns-in-Some-clause-misuse : goal.returns-in-Some-clause-misuse
returns-in-Some-clause-misuse c =
    let operands = subst (HasOperands c.args.given.now c.args.command c.args.os) c.in-Some.ensures c.requires.operands in
    (c.in-Some.word.now, ((c.args.command, c.args.os, operands_of c.in-Some.field-0-1.now, inr (c.requires.takes, operands)), c.surplus.ensures))
