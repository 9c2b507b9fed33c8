use Rattle.path_rules.proofs.lemmas.OneParent.{one_parent}
use Rattle.path_rules.proofs.laws.one_parent.Goals as goal

pub returns : goal.returns
returns c = λ style path one other h k. one_parent style path one other h k
