use Rattle.wtf8_core.proofs.{Common.arith, lemmas.vectors.Lanes.lane_above}
use Rattle.wtf8_core.proofs.vectors.lanes.above.Goals as goal

pub returns : goal.returns
returns g c = lane_above c.args.bytes _ c.args.value c.fits-bytes.0 c.fits-bytes.1 (omega (arith, c.ranges.value))
