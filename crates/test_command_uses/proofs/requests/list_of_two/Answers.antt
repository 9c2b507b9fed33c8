use Rattle.names_commands.specs.Command.{requested_of}
use Rattle.test_command_uses.proofs.KnownLists.{usual_of_two}
use Rattle.test_command_uses.proofs.requests.list_of_two.Goals as goal

pub returns-in-Ok : goal.returns-in-Ok
returns-in-Ok g c = usual_of_two _ _ (requested_of c.in-Ok.request) c.in-Ok.ensures.request
