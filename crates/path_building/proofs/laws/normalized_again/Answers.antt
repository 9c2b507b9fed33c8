use Rattle.path_building.proofs.lemmas.Again.{normalized_again}
use Rattle.path_building.proofs.laws.normalized_again.Goals as goal

pub returns : goal.returns
returns c = λ style path answer h. normalized_again style path answer h
