use Rattle.wtf8_core.proofs.lemmas.units.AsFunction.{has_units_exactly}
use Rattle.wtf8_core.proofs.laws.functions.Goals as goal

pub returns-clause-units : goal.returns-clause-units
returns-clause-units c = has_units_exactly
