use Rattle.path_rules.proofs.lemmas.Divides.{divided}
use Rattle.path_rules.proofs.laws.divided.Goals as goal

pub returns : goal.returns
returns c = λ style path items a. divided style path items a
