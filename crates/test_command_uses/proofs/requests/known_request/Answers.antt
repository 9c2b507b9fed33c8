use Rattle.test_command_uses.proofs.Requested.{never_rejected}
use Rattle.test_command_uses.proofs.requests.known_request.Goals as goal

pub returns : goal.returns
returns g c = never_rejected c.args.given.now c.parse.result c.parse.ensures.error
