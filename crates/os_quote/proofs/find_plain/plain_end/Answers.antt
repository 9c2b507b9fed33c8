use Rattle.os_quote.proofs.Common.{◌-◌, length, arith}
use Rattle.os_quote.proofs.lemmas.PlainBytes.{more_plain, fewer_plain}
use Rattle.os_quote.proofs.find_plain.plain_end.Goals as goal

pub returns-then-len-lt-LANES : goal.returns-then-len-lt-LANES
returns-then-len-lt-LANES c = more_plain c.args.bytes.now c.loop-at.at c.plain_lanes-len.result c.loop-at.invariant (omega (arith, c.plain_lanes-len.ensures.within, c.loop-at-test.true, c.loop-at.invariant.within)) c.plain_lanes-len.ensures.plain

pub loop-at-preserved : goal.loop-at-preserved
loop-at-preserved c = more_plain c.args.bytes.now c.loop-at.at 16 c.loop-at.invariant (omega (arith, c.loop-at-test.true, c.loop-at.invariant.within)) (λ i lt. c.plain_lanes-len.ensures.plain i (omega (arith, lt, c.if-len-lt-LANES.false)))

pub returns : goal.returns
returns c =
    let bytes = c.args.bytes.now in
    let last = length bytes - 16 in
    let n = c.plain_lanes.result in
    more_plain bytes last n (fewer_plain bytes c.loop-at.at last c.loop-at.invariant (omega (arith, c.loop-at-test.false))) (omega (arith, c.plain_lanes.ensures.within, c.requires.long)) c.plain_lanes.ensures.plain
