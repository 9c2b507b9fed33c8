use Rattle.os_quote.proofs.Common.{◌<◌, subst, arith, IsPlain}
use Rattle.os_quote.proofs.find_plain.plain_lanes.Goals as goal

pub returns-clause-plain : goal.returns-clause-plain
returns-clause-plain c i h =
    let few : i < 16 = omega (arith, h, c.min.ensures) in
    subst IsPlain (c.load.ensures i few) (c.others.ensures i few (c.leading_zero.ensures.zero i (omega (arith, h, c.min.ensures)) few))
