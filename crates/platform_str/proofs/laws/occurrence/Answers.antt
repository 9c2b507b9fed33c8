use Rattle.wtf8_core.proofs.lemmas.occurrence.Indices.{occurs_alike, units_occur, one_byte_index}
use Rattle.platform_str.proofs.laws.occurrence.Goals as goal

pub returns-clause-alike : goal.returns-clause-alike
returns-clause-alike g c = occurs_alike g.E.Platform.well_formed g.E.Platform.units g.met.E.Platform.occurrence

pub returns-clause-placed : goal.returns-clause-placed
returns-clause-placed g c = units_occur g.E.Platform.well_formed g.E.Platform.units g.met.E.Platform.occurrence

pub returns-clause-one_index : goal.returns-clause-one_index
returns-clause-one_index g c = one_byte_index g.E.Platform.well_formed g.E.Platform.units g.met.E.Platform.occurrence
