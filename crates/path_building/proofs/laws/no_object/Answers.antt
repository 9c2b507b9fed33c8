use Rattle.path_building.proofs.lemmas.Objects.{no_object}
use Rattle.path_building.proofs.laws.no_object.Goals as goal

pub returns : goal.returns
returns c = λ items path h. no_object items path h
