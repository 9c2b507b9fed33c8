use Rattle.os_quote.proofs.{Common.is_any, lemmas.Endings.chunks_before_ending, lemmas.Escapes.never_bad, lemmas.Escapes.one_bad_index}
use Rattle.os_quote.specs.declared.form.Form.TheVariants.{Text}
use Rattle.os_quote.proofs.laws.bad_escapes.Goals as goal

pub returns-clause-never : goal.returns-clause-never
returns-clause-never g c =
    let laws = g.met.E.Platform.laws in
    never_bad Text g.E.Platform.well_formed g.E.Platform.units g.E.Platform.part_units g.met.E.Platform.parts (chunks_before_ending g.met.E.Platform.occurrence laws.cut_prefix laws.cut_suffix Text)

pub returns-clause-one_index : goal.returns-clause-one_index
returns-clause-one_index g c = one_bad_index is_any
