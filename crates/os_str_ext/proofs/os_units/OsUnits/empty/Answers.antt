use Rattle.os_str_ext.proofs.Common.{[], ◌∙◌, sym, ap, subst, arith, HasNoCharacter, character_fits, no_units}
use Rattle.os_str_ext.proofs.os_units.OsUnits.empty.Goals as goal

pub new-requires-2 : goal.new-requires-2
new-requires-2 g c = subst HasNoCharacter (sym c.new.ensures) (λ i j w. let f = character_fits [] i j w in absurd (omega (arith, f)))

pub returns : goal.returns
returns g c = c.os_units.ensures.units ∙ ap g.E.Platform.units (c.new-2.ensures ∙ c.new.ensures) ∙ no_units g.E.Platform.well_formed g.E.Platform.units g.met.E.Platform.occurrence
