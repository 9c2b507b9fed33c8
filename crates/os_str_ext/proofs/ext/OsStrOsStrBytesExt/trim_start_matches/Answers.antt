use Rattle.os_str_ext.proofs.{Common.subst, Common.IsUtf8, Common.bytes, lemmas.Pieces.start_trim_in_units}
use Rattle.os_str_ext.proofs.ext.OsStrOsStrBytesExt.trim_start_matches.Goals as goal

pub returns : goal.returns
returns g c =
    let b = rw (c.as_str.ensures, c.encode-encoded.ensures.value) at c.trim_start.ensures.trim in
    let whole = rw (c.as_str.ensures, c.encode-encoded.ensures.value) at c.trim_start.ensures.whole in
    record {
      bytes = b;
      units = λ h. start_trim_in_units g.E.Platform.well_formed g.E.Platform.units g.met.E.Platform.occurrence (g.P.Pattern.text c.args.pattern) (bytes c.args.self) _ (subst IsUtf8 c.encode-encoded.ensures.value c.encode-encoded.ensures.utf8) c.args.self.ok (b h);
      whole = whole;
    }
