use Rattle.test_uses.proofs.TwoPieces.{where_ok}
use Rattle.test_uses.proofs.sinks.print_both.Goals as goal

pub returns : goal.returns
returns g c = where_ok _ c.take_both.result c.take_both.ensures
