use Rattle.path_rules.proofs.lemmas.LastNames.{one_file_name}
use Rattle.path_rules.proofs.laws.one_file_name.Goals as goal

pub returns : goal.returns
returns c = λ style s items one other are a b. one_file_name style s items one other are a b
