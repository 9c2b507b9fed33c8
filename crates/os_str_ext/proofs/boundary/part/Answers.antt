use Rattle.os_str_ext.proofs.{Common.sym, Common.subst, Common.IsBoundary, Common.bytes, lemmas.CutUnits.part_in_units}
use Rattle.os_str_ext.proofs.boundary.part.Goals as goal

pub split_at-requires-2 : goal.split_at-requires-2
split_at-requires-2 g c =
    let r = c.requires in
    subst (λ prefix. IsBoundary prefix c.args.start) (sym c.split_at.ensures.front) (c.boundaries.ensures.in_prefix (bytes c.args.string) c.args.start c.args.end r.ordered r.start r.end)

pub returns-clause-units : goal.returns-clause-units
returns-clause-units g c =
    let laws = g.met.E.Platform.laws in
    rw (c.split_at-2.ensures.back, c.split_at.ensures.front) (part_in_units g.E.Platform.well_formed g.E.Platform.units laws.cut_prefix laws.cut_units (bytes c.args.string) c.args.start c.args.end c.args.string.ok c.requires)
