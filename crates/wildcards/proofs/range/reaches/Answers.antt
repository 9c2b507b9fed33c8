use Rattle.std.proofs.Common.{◌<◌, ◌≤◌, length, arith}
use Rattle.wildcards.proofs.lemmas.Orders.{one_reached, all_reached}
use Rattle.wildcards.proofs.range.reaches.Goals as goal

pub loop-at-preserved : goal.loop-at-preserved
loop-at-preserved g c =
    let below = c.loop-at-test.true in
    let len = c.len.ensures in
    let size = c.loop-at.reaching.ok.0 in
    let l : c.loop-at.at < length c.loop-at.reaching.items = omega (arith, below, len, size) in
    one_reached _ c.loop-at.reaching.items c.loop-at.at c.loop-at.reach c.further-reach.result c.index-range.result.now l c.index-range.ensures c.further-reach.ensures c.loop-at.invariant

pub returns : goal.returns
returns g c =
    let past = c.loop-at-test.false in
    let len = c.len.ensures in
    let size = c.loop-at.reaching.ok.0 in
    let l : length c.loop-at.reaching.items ≤ c.loop-at.at = omega (arith, past, len, size) in
    all_reached _ c.loop-at.reaching.items c.loop-at.at c.loop-at.reach l c.loop-at.invariant
