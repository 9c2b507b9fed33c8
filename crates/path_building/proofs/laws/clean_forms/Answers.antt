use Rattle.path_building.proofs.lemmas.Again.{clean_again, one_clean}
use Rattle.path_building.proofs.laws.clean_forms.Goals as goal

pub returns-clause-again : goal.returns-clause-again
returns-clause-again c = λ items clean h. clean_again h

pub returns-clause-one : goal.returns-clause-one
returns-clause-one c = λ items one other h k. one_clean h k
