use Rattle.path_rules.proofs.lemmas.Alike.{ends_from, and_then, swapped}
use Rattle.path_rules.proofs.compare.ends_with.Goals as goal

pub returns : goal.returns
returns c = and_then c.ends_alike.ensures (swapped (ends_from c.args.style c.args.path.now c.args.child.now c.new.result.items c.new-2.result.items c.new.ensures.items c.new-2.ensures.items))
