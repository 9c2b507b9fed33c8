use Rattle.test_uses.proofs.Outcomes.{where_ok}
use Rattle.test_uses.proofs.line_escapes.line_escape_says.Goals as goal

pub returns-clause-text : goal.returns-clause-text
returns-clause-text g c = c.line_escapes.ensures.utf8 _ _ c.args.string.ok c.requires

pub returns-clause-on_line : goal.returns-clause-on_line
returns-clause-on_line g c = c.line_escapes.ensures.one_line _ _ c.args.string.ok c.requires

pub returns-clause-no_space : goal.returns-clause-no_space
returns-clause-no_space g c = c.line_escapes.ensures.no_space _ _ c.args.string.ok c.requires

pub returns-clause-same : goal.returns-clause-same
returns-clause-same g c = where_ok (λ text is. c.line_escapes.ensures.one_escape _ _ _ is c.requires) c.escape_line.result c.escape_line.ensures
