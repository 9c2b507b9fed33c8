use Rattle.std.proofs.Common.{sym, subst}
use Rattle.list_programs.specs.Arguments.{operands_of}
use Rattle.names_commands.specs.Command.{Lists, MakesUpWork}
use Rattle.names_commands.proofs.lemmas.Commands.{lists_escapes, lists_words}
use Rattle.names_commands.proofs.command.Command.list.Goals as goal

pub returns-in_default-clause-command : goal.returns-in_default-clause-command
returns-in_default-clause-command c =
    let given = c.args.given.now in
    let lists : Lists given c.args.os c.in_ok-picked.picked = (operands_of c.args.more.now, (c.requires.operands, (c.requires.fits, c.in_ok-picked.ensures.picks))) in
    subst (MakesUpWork given c.args.os) (sym c.listing.ensures) (lists_escapes given c.args.os c.in_ok-picked.picked lists c.in_default.ensures)

pub returns-clause-command : goal.returns-clause-command
returns-clause-command c =
    let given = c.args.given.now in
    let lists : Lists given c.args.os c.in_ok-picked.picked = (operands_of c.args.more.now, (c.requires.operands, (c.requires.fits, c.in_ok-picked.ensures.picks))) in
    subst (MakesUpWork given c.args.os) (sym c.listing-2.ensures) (lists_words given c.args.os c.in_ok-picked.picked c.in-Some.form lists c.in_ok-words.ensures.unix c.in-Some.ensures.0)
