use Rattle.path_building.proofs.lemmas.Again.{normal_no_object, clean_no_object}
use Rattle.path_building.proofs.laws.no_object_form.Goals as goal

pub returns-clause-normal : goal.returns-clause-normal
returns-clause-normal c = λ path answer h. normal_no_object path answer h

pub returns-clause-clean : goal.returns-clause-clean
returns-clause-clean c = λ path answer h. clean_no_object path answer h
