use Rattle.os_str_ext.proofs.{Common.no_units, lemmas.ChunkUnits.units_joined}
use Rattle.os_str_ext.proofs.chunk_laws.chunk_units.Goals as goal

pub returns : goal.returns
returns g c =
    let laws = g.met.E.Platform.laws in
    let none = no_units g.E.Platform.well_formed g.E.Platform.units g.met.E.Platform.occurrence in
    units_joined g.E.Platform.well_formed g.E.Platform.units none laws.cut_prefix laws.cut_suffix laws.cut_units
