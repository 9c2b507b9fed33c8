use Rattle.glob_text.proofs.lemmas.Names.{ends_where, ends_nowhere}
use Rattle.glob_text.proofs.class_text.NameEnd.ends_name.Goals as goal

pub returns-then-self-text : goal.returns-then-self-text
returns-then-self-text c = ends_where c.args.text.now c.args.self c.requires c.if-self-text.true

pub returns-else-self-text : goal.returns-else-self-text
returns-else-self-text c = ends_nowhere c.args.text.now c.args.self c.requires c.if-self-text.false
