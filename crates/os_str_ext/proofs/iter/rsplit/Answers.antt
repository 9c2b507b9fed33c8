use Rattle.os_str_ext.proofs.{Common.bytes, lemmas.Pieces.rsplit_in_units}
use Rattle.os_str_ext.proofs.iter.rsplit.Goals as goal

pub returns : goal.returns
returns g c = record { bytes = c.new.ensures.pieces; units = rsplit_in_units g.E.Platform.well_formed g.E.Platform.units g.met.E.Platform.occurrence (g.P.Pattern.text c.args.pattern) (bytes c.args.string) _ c.new.ensures.utf8 c.requires c.args.string.ok c.new.ensures.pieces }
