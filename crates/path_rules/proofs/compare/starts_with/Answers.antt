use Rattle.path_rules.proofs.lemmas.Alike.{starts_from, and_then, swapped}
use Rattle.path_rules.proofs.compare.starts_with.Goals as goal

pub returns : goal.returns
returns c = and_then c.starts_alike.ensures (swapped (starts_from c.args.style c.args.path.now c.args.base.now c.new.result.items c.new-2.result.items c.new.ensures.items c.new-2.ensures.items))
