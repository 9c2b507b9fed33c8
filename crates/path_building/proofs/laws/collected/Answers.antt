use Rattle.path_building.proofs.lemmas.Collects.{collected}
use Rattle.path_building.proofs.laws.collected.Goals as goal

pub returns : goal.returns
returns c = collected
