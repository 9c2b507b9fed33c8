use Rattle.path_rules.proofs.lemmas.Lefts.{all_left}
use Rattle.path_rules.proofs.components.Components.new.Goals as goal

pub invariant_of-result : goal.invariant_of-result
invariant_of-result c = all_left c.args.style c.args.path.now c.head_of.result c.head_of.ensures.parts
