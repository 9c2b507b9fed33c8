use Rattle.os_quote.proofs.Common.{escape_in, stays_on_line}
use Rattle.os_quote.specs.declared.form.Form.TheVariants.{Line}
use Rattle.os_quote.proofs.lemmas.{Endings.chunks_before_ending, Escapes.escape_in_is, Escapes.one_escape, Escapes.one_string, Escapes.never_bad, Escapes.one_bad_index, LastBytes.escape_ends_so, Lines.escape_is_on_line, Readings.escape_is_text}
use Rattle.os_quote.proofs.laws.line_escapes.Goals as goal

pub returns : goal.returns
returns g c =
    let P = g.E.Platform in
    let laws = g.met.E.Platform.laws in
    let chunks = chunks_before_ending g.met.E.Platform.occurrence laws.cut_prefix laws.cut_suffix Line in
    record {
      some = λ s w. (escape_in Line P.units s, escape_in_is Line P.units s);
      one_escape = one_escape Line P.units;
      utf8 = escape_is_text Line P.well_formed P.units P.part_units g.met.E.Platform.parts chunks;
      one_string = one_string Line P.well_formed P.units P.part_units g.met.E.Platform.parts chunks;
      one_line = escape_is_on_line P.well_formed P.units P.part_units g.met.E.Platform.parts chunks;
      no_space = escape_ends_so P.well_formed P.units P.part_units g.met.E.Platform.parts chunks;
      never_bad = never_bad Line P.well_formed P.units P.part_units g.met.E.Platform.parts chunks;
      one_index = one_bad_index stays_on_line;
    }
