use Rattle.path_rules.proofs.lemmas.LastNames.{parent_is_shorter}
use Rattle.path_rules.proofs.laws.parent_is_shorter.Goals as goal

pub returns : goal.returns
returns c = λ style s parent p. parent_is_shorter style s parent p
