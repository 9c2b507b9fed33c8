use Rattle.path_rules.proofs.lemmas.Dots.{one_extension}
use Rattle.path_rules.proofs.laws.one_extension.Goals as goal

pub returns : goal.returns
returns c = λ name stem extension other another a b. one_extension name stem extension other another a b
