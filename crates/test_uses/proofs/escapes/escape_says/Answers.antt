use Rattle.test_uses.proofs.Outcomes.{where_ok}
use Rattle.test_uses.proofs.escapes.escape_says.Goals as goal

pub returns-clause-text : goal.returns-clause-text
returns-clause-text g c = c.escapes.ensures.utf8 _ _ c.args.string.ok c.requires

pub returns-clause-same : goal.returns-clause-same
returns-clause-same g c = where_ok (λ text is. c.escapes.ensures.one_escape _ _ _ is c.requires) c.escape.result c.escape.ensures
