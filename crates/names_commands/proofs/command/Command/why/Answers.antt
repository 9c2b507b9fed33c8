use Rattle.std.proofs.Common.{inr, refl, subst}
use Rattle.list_programs.specs.Arguments.{operands_of}
use Rattle.names_commands.specs.Command.{HasOperands, Picks, SomePicked}
use Rattle.names_commands.specs.declared.command.Name.TheVariants.{Why}
use Rattle.names_commands.proofs.lemmas.Commands.{none_picked}
use Rattle.names_commands.proofs.command.Command.why.Goals as goal

pub returns-else-picked-clause-misuse : goal.returns-else-picked-clause-misuse
returns-else-picked-clause-misuse c =
    let given = c.args.given.now in
    let more = operands_of c.args.more.now in
    let none = subst (Picks given c.args.os more) c.if-picked.false c.in_ok-picked.ensures.picks in
    let no_more = none_picked given more none.0 in
    inr (inr (inr (refl, (c.args.os, (subst (HasOperands given Why c.args.os) no_more c.requires.operands, subst (λ m. ¬ (SomePicked given m)) no_more none.0)))))

pub returns-then-picked-clause-command : goal.returns-then-picked-clause-command
returns-then-picked-clause-command c =
    let given = c.args.given.now in
    let more = operands_of c.args.more.now in
    (more, (c.requires.operands, (c.requires.fits, subst (Picks given c.args.os more) c.if-picked.true c.in_ok-picked.ensures.picks)))
