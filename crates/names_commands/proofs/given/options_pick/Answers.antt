use Rattle.std.proofs.Common.{inl, inr, refl, subst}
use Rattle.names_commands.specs.Command.{HasOperands, OptionsMatch}
use Rattle.names_commands.proofs.given.options_pick.Goals as goal

pub returns-then-has-clause-misuse : goal.returns-then-has-clause-misuse
returns-then-has-clause-misuse c =
    let operands = subst (HasOperands c.args.given.now c.args.command c.args.os) c.requires.none c.requires.operands in
    let none : ¬ (OptionsMatch c.args.given.now) = λ match. let yes = c.options_match.ensures.1 match in let no = c.if-options_match.false in cc in
    inr (inr (inl (refl, (c.args.command, c.args.os, (operands, (c.has.ensures.0 c.if-has.true, none))))))
