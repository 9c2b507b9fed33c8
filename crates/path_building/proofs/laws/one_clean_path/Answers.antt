use Rattle.path_building.proofs.lemmas.OneClean.{one_clean_path}
use Rattle.path_building.proofs.laws.one_clean_path.Goals as goal

pub returns : goal.returns
returns c = λ path other one two d n m h k. one_clean_path path other one two d n m h k
