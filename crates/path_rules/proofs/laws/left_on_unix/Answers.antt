use Rattle.path_rules.proofs.lemmas.AsPath.{unix_left}
use Rattle.path_rules.proofs.laws.left_on_unix.Goals as goal

pub returns : goal.returns
returns c = λ path taken items part left. unix_left path taken items part left
