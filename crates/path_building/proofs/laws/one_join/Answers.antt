use Rattle.path_building.proofs.lemmas.OneJoin.{one_join}
use Rattle.path_building.proofs.laws.one_join.Goals as goal

pub returns : goal.returns
returns c = λ style base path one other first second. one_join style base path one other first second
