use Rattle.test_uses.proofs.TwoPieces.{kept, nothing_else, on_err, on_ok}
use Rattle.test_uses.proofs.sinks.push_both.Goals as goal

pub returns-clause-both : goal.returns-clause-both
returns-clause-both g c = on_ok _ _ c.take_both.result c.take_both.ensures

pub returns-clause-kept : goal.returns-clause-kept
returns-clause-kept g c = on_err _ _ kept c.take_both.result c.take_both.ensures

pub returns-clause-nothing_else : goal.returns-clause-nothing_else
returns-clause-nothing_else g c = on_err _ _ nothing_else c.take_both.result c.take_both.ensures
