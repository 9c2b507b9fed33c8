use Rattle.os_str_ext.proofs.{Common.subst, Common.IsUtf8, Common.bytes, lemmas.Pieces.suffix_alike}
use Rattle.os_str_ext.proofs.ext.OsStrOsStrBytesExt.ends_with.Goals as goal

pub returns-clause-units : goal.returns-clause-units
returns-clause-units g c =
    let b = rw (c.as_str.ensures, c.encode-encoded.ensures.value, c.as_encoded_bytes.ensures.value) at c.ends_with.ensures.suffix in
    let u = suffix_alike g.E.Platform.well_formed g.E.Platform.units g.met.E.Platform.occurrence (g.P.Pattern.text c.args.pattern) (bytes c.args.self) (subst IsUtf8 c.encode-encoded.ensures.value c.encode-encoded.ensures.utf8) c.args.self.ok in
    (λ t. u.0 (b.0 t), λ f. b.1 (u.1 f))
