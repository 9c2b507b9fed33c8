use Rattle.os_str_ext.proofs.Common.{subst, IsUtf8, bytes}
use Rattle.wtf8_core.proofs.lemmas.occurrence.Indices.{finds_first}
use Rattle.os_str_ext.proofs.ext.OsStrOsStrBytesExt.find.Goals as goal

pub returns-clause-bytes : goal.returns-clause-bytes
returns-clause-bytes g c = rw (c.as_str.ensures, c.encode-encoded.ensures.value, c.as_encoded_bytes.ensures.value) at c.find.ensures.index

pub returns-clause-after : goal.returns-clause-after
returns-clause-after g c = rw (c.as_str.ensures, c.encode-encoded.ensures.value) at c.find.ensures.after

pub returns-clause-units : goal.returns-clause-units
returns-clause-units g c = finds_first g.E.Platform.well_formed g.E.Platform.units g.met.E.Platform.occurrence (g.P.Pattern.text c.args.pattern) (bytes c.args.self) _ (subst IsUtf8 c.encode-encoded.ensures.value c.encode-encoded.ensures.utf8) c.args.self.ok (returns-clause-bytes g c)
