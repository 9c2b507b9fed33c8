use Rattle.names_commands.proofs.lemmas.Commands.{first_given, rest_fits, rest_given}
use Rattle.names_commands.proofs.fitting.first_misplaced.Goals as goal

pub returns-in-Some : goal.returns-in-Some
returns-in-Some c = (first_given c.args.given.now c.loop-left.left.now _ c.in-len1-up.len_at_least c.in-Some.option c.loop-left.invariant.1 c.in-Some.ensures.0, c.in-Some.ensures.1)

pub loop-left-preserved : goal.loop-left-preserved
loop-left-preserved c = (
  rest_fits c.args.given.now c.loop-left.left.now _ c.in-len1-up.len_at_least c.args.command c.loop-left.invariant.0 c.in_default-misplaced.ensures,
  rest_given c.args.given.now c.loop-left.left.now c.in-len1-up.len_at_least c.loop-left.invariant.1,
)
