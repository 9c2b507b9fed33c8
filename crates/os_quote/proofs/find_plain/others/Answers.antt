use Rattle.os_quote.proofs.Common.{◌-◌, ◌<◌, w8, get_or, arith, ap, ◌∙◌}
use Rattle.wtf8_core.proofs.Common.{Fits}
use Rattle.std.proofs.lemmas.Simd.{Each1-get_or}
use Rattle.wtf8_core.proofs.lemmas.vectors.Lanes.{lane_with}
use Rattle.os_quote.proofs.lemmas.PlainLanes.{chosen, plain_lane}
use Rattle.os_quote.proofs.find_plain.others.Goals as goal

pub returns : goal.returns
returns g c i h none =
    let xs = c.args.lanes in
    let x = get_or xs i 0 in
    let byte = Each1-get_or (Fits w8) xs i 0 (omega (arith, h, c.fits-lanes.0)) c.fits-lanes.1 in
    let fits : x < 256 = omega (arith, byte) in
    plain_lane x _ _ _ fits (c.above-unprintable.ensures i h ∙ ap (λ y. y - 94) (lane_with _ xs g.row.N 32 c.fits-lanes.0 i h)) (chosen xs g.row.N 92 255 0 c.fits-lanes.0 i h) (c.or.ensures i h) none
