use Rattle.os_str_ext.proofs.{Common.subst, Common.◌∙◌, Common.IsUtf8, Common.bytes, lemmas.Pieces.trim_in_units}
use Rattle.os_str_ext.proofs.ext.OsStrOsStrBytesExt.trim_matches.Goals as goal

pub returns : goal.returns
returns g c =
    let a = rw (c.as_str.ensures, c.encode-encoded.ensures.value) at c.trim_start.ensures.trim in
    let b = rw (c.as_str-2.ensures, c.encode-encoded.ensures.value) at c.trim_end.ensures.trim in
    let a_whole = rw (c.as_str.ensures, c.encode-encoded.ensures.value) at c.trim_start.ensures.whole in
    let b_whole = rw (c.as_str-2.ensures, c.encode-encoded.ensures.value) at c.trim_end.ensures.whole in
    record {
      bytes = λ h. (bytes c.trim_start.result, (a h, b h));
      units = λ h. trim_in_units g.E.Platform.well_formed g.E.Platform.units g.met.E.Platform.occurrence (g.P.Pattern.text c.args.pattern) (bytes c.args.self) _ (subst IsUtf8 c.encode-encoded.ensures.value c.encode-encoded.ensures.utf8) h c.args.self.ok (bytes c.trim_start.result, (a h, b h));
      whole = λ h. b_whole h ∙ a_whole h;
    }
