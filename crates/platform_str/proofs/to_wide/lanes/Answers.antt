use Rattle.platform_str.proofs.lemmas.SixteenLanes.{loaded, widened}
use Rattle.platform_str.proofs.to_wide.lanes.Goals as goal

pub returns-clause-lanes : goal.returns-clause-lanes
returns-clause-lanes c = widened (loaded c.args.from c.args.bytes.now c.requires)
