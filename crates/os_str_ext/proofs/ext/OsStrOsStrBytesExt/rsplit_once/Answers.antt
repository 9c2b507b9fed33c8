use Rattle.os_str_ext.proofs.{Common.subst, Common.IsUtf8, Common.bytes, lemmas.Pieces.last_once_in_units}
use Rattle.os_str_ext.proofs.ext.OsStrOsStrBytesExt.rsplit_once.Goals as goal

pub returns-clause-bytes : goal.returns-clause-bytes
returns-clause-bytes g c = rw (c.as_str.ensures, c.encode-encoded.ensures.value) at c.rsplit_once.ensures

pub returns-clause-units : goal.returns-clause-units
returns-clause-units g c = last_once_in_units g.E.Platform.well_formed g.E.Platform.units g.met.E.Platform.occurrence bytes (g.P.Pattern.text c.args.pattern) (bytes c.args.self) _ (subst IsUtf8 c.encode-encoded.ensures.value c.encode-encoded.ensures.utf8) c.args.self.ok (returns-clause-bytes g c)
