use Rattle.wtf8_core.proofs.lemmas.units.OneToOne.{units_once, one_list_of_units}
use Rattle.wtf8_core.proofs.laws.encoding.Goals as goal

pub returns-clause-units_once : goal.returns-clause-units_once
returns-clause-units_once c = units_once

pub returns-clause-one_list_of_units : goal.returns-clause-one_list_of_units
returns-clause-one_list_of_units c = one_list_of_units
