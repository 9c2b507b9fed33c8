use Rattle.names_commands.specs.Command.{requested_of}
use Rattle.test_command_uses.proofs.Requested.{status_stated}
use Rattle.test_command_uses.proofs.requests.has_exit_status.Goals as goal

pub returns-in-Ok : goal.returns-in-Ok
returns-in-Ok g c = status_stated c.args.given.now (requested_of c.in-Ok.request) c.requires.help c.requires.version c.in-Ok.ensures.request
