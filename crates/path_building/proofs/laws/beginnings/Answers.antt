use Rattle.path_building.proofs.lemmas.Again.{normal_beginning, clean_beginning}
use Rattle.path_building.proofs.laws.beginnings.Goals as goal

pub returns-clause-normal : goal.returns-clause-normal
returns-clause-normal c = λ style path answer h. normal_beginning style path answer h

pub returns-clause-clean : goal.returns-clause-clean
returns-clause-clean c = λ style path answer h. clean_beginning style path answer h
