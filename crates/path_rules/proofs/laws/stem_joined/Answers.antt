use Rattle.path_rules.proofs.lemmas.Dots.{stem_joined}
use Rattle.path_rules.proofs.laws.stem_joined.Goals as goal

pub returns : goal.returns
returns c = λ name stem other extension h e. stem_joined name stem other extension h e
