use Rattle.names_commands.specs.Command.{requested_of}
use Rattle.test_command_uses.proofs.Requested.{never_inverted}
use Rattle.test_command_uses.proofs.requests.inverts_nothing.Goals as goal

pub returns-in-Ok : goal.returns-in-Ok
returns-in-Ok g c = never_inverted c.args.given.now (requested_of c.in-Ok.request) c.requires.operands c.requires.none c.requires.help c.requires.version c.in-Ok.ensures.request
