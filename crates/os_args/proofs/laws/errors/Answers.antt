use Rattle.os_args.proofs.lemmas.OneEscape.{shown_is_escape}
use Rattle.os_args.proofs.laws.errors.Goals as goal

pub returns : goal.returns
returns g c = shown_is_escape g.E.Platform.units
