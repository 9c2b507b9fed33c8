use Rattle.os_str_ext.proofs.Common.{ap, no_units, sym, ◌∙◌}
use Rattle.os_str_ext.proofs.os_units.OsUnitsIterator.next.Goals as goal

pub returns-then-is_empty-clause-steps : goal.returns-then-is_empty-clause-steps
returns-then-is_empty-clause-steps g c =
    let none = sym c.as_os_str.ensures.value ∙ c.is_empty.ensures.0 c.if-is_empty.true in
    let e = sym c.self.view_is ∙ ap g.E.Platform.units none ∙ no_units g.E.Platform.well_formed g.E.Platform.units g.met.E.Platform.occurrence in
    (e, e)
