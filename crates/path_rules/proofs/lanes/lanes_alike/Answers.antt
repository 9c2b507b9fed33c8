use Rattle.path_rules.proofs.lemmas.Lanes.{all_alike, some_alike, few_alike, each_alike}
use Rattle.path_rules.proofs.lanes.lanes_alike.Goals as goal

pub returns-then-mask-eq0-clause-alike : goal.returns-then-mask-eq0-clause-alike
returns-then-mask-eq0-clause-alike g c =
    each_alike c.args.a c.args.b g.row.N c.fits-a.0 c.fits-b.0 c.requires g.row.N (all_alike c.args.a c.args.b g.row.N c.fits-a.0 c.fits-b.0 c.requires c.if-mask-eq0.true)

pub returns-clause-within : goal.returns-clause-within
returns-clause-within g c =
    few_alike c.args.a c.args.b g.row.N c.fits-a.0 c.fits-b.0 c.requires _ (some_alike c.args.a c.args.b g.row.N c.fits-a.0 c.fits-b.0 c.requires c.if-mask-eq0.false)

pub returns-clause-alike : goal.returns-clause-alike
returns-clause-alike g c =
    each_alike c.args.a c.args.b g.row.N c.fits-a.0 c.fits-b.0 c.requires _ (some_alike c.args.a c.args.b g.row.N c.fits-a.0 c.fits-b.0 c.requires c.if-mask-eq0.false)
