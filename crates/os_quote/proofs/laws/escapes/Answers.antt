use Rattle.os_quote.proofs.Common.{escape_in}
use Rattle.os_quote.specs.declared.form.Form.TheVariants.{Text}
use Rattle.os_quote.proofs.lemmas.{Endings.chunks_before_ending, Escapes.escape_in_is, Escapes.one_escape, Escapes.one_string, Readings.escape_is_text}
use Rattle.os_quote.proofs.laws.escapes.Goals as goal

pub returns : goal.returns
returns g c =
    let P = g.E.Platform in
    let laws = g.met.E.Platform.laws in
    let chunks = chunks_before_ending g.met.E.Platform.occurrence laws.cut_prefix laws.cut_suffix Text in
    record {
      some = λ s w. (escape_in Text P.units s, escape_in_is Text P.units s);
      one_escape = one_escape Text P.units;
      utf8 = escape_is_text Text P.well_formed P.units P.part_units g.met.E.Platform.parts chunks;
      one_string = one_string Text P.well_formed P.units P.part_units g.met.E.Platform.parts chunks;
    }
