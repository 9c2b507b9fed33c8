use Rattle.os_str_ext.proofs.{Common.bytes, lemmas.CutUnits.whole_in_units}
use Rattle.os_str_ext.proofs.slice_index.RangeFullSliceIndex.index.Goals as goal

pub returns-clause-units : goal.returns-clause-units
returns-clause-units g c =
    let laws = g.met.E.Platform.laws in
    whole_in_units g.E.Platform.well_formed g.E.Platform.units laws.cut_prefix laws.cut_units (bytes c.args.string) c.args.string.ok
