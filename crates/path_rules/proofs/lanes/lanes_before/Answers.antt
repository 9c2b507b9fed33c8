use Rattle.path_rules.proofs.lemmas.Lanes.{all_before, some_before, few_before, none_before}
use Rattle.path_rules.proofs.lanes.lanes_before.Goals as goal

pub returns-then-mask-eq0-clause-other : goal.returns-then-mask-eq0-clause-other
returns-then-mask-eq0-clause-other g c =
    none_before c.args.lanes c.args.value g.row.N c.fits-lanes.0 c.requires g.row.N (all_before c.args.lanes c.args.value g.row.N c.fits-lanes.0 c.requires c.if-mask-eq0.true)

pub returns-clause-within : goal.returns-clause-within
returns-clause-within g c =
    few_before c.args.lanes c.args.value g.row.N c.fits-lanes.0 c.requires _ (some_before c.args.lanes c.args.value g.row.N c.fits-lanes.0 c.requires c.if-mask-eq0.false)

pub returns-clause-other : goal.returns-clause-other
returns-clause-other g c =
    none_before c.args.lanes c.args.value g.row.N c.fits-lanes.0 c.requires _ (some_before c.args.lanes c.args.value g.row.N c.fits-lanes.0 c.requires c.if-mask-eq0.false)
