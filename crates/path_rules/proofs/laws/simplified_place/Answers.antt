use Rattle.path_rules.proofs.lemmas.Simple.{simplified_place}
use Rattle.path_rules.proofs.laws.simplified_place.Goals as goal

pub returns : goal.returns
returns c = λ style path items t a s. simplified_place style path items t a s
