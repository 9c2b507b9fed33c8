use Rattle.std.proofs.Common.{subst}
use Rattle.wtf8_core.specs.UnitIndex.{IsByteIndex}
use Rattle.platform_str.specs.Strings.{bytes}
use Rattle.test_uses.proofs.Outcomes.{only_some}
use Rattle.test_uses.proofs.Indices.{one_first_index}
use Rattle.test_uses.proofs.occurrence.found_by_units.Goals as goal

pub returns : goal.returns
returns g c =
    let known = c.requires.index in
    only_some _ c.find.result c.find.ensures.units
    (λ nowhere. nowhere known.unit_index known.is.occurs)
    (λ at found.
    let same = one_first_index _ _ _ _ found.is known.is in
    c.occurrence.ensures.one_index _ _ _ _ (subst (λ i. IsByteIndex g.E.Platform.well_formed g.E.Platform.units (bytes c.args.string) i at) same found.byte_index) known.byte_index)
