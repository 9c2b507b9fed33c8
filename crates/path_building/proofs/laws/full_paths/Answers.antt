use Rattle.path_building.proofs.lemmas.Absolutes.{full_absolute}
use Rattle.path_building.proofs.laws.full_paths.Goals as goal

pub returns : goal.returns
returns c = λ style path directory full h. full_absolute style path directory full h
