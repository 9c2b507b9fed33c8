use Rattle.platform_str.proofs.{Common.w16, Common.take, Common.arith, Common.length-take-le, lemmas.LaneTests.count_from_splat}
use Rattle.platform_str.proofs.from_wide.count_from.Goals as goal

pub returns : goal.returns
returns c = count_from_splat w16 c.args.least 16 (take 16 c.args.units.now) (length-take-le 16 c.args.units.now c.requires) (omega arith)
