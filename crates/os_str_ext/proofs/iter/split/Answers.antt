use Rattle.os_str_ext.proofs.{Common.bytes, lemmas.Pieces.split_in_units}
use Rattle.os_str_ext.proofs.iter.split.Goals as goal

pub returns : goal.returns
returns g c = record { bytes = c.new.ensures.pieces; units = split_in_units g.E.Platform.well_formed g.E.Platform.units g.met.E.Platform.occurrence (g.P.Pattern.text c.args.pattern) (bytes c.args.string) _ c.new.ensures.utf8 c.requires c.args.string.ok c.new.ensures.pieces }
