use Rattle.os_quote.proofs.{Common.arith, Common.common_steps, Common.nat_tests, Common.subst, Common.IsPlain, lemmas.PlainBytes.none_plain, lemmas.PlainBytes.more_plain}
use Rattle.os_quote.proofs.find_plain.plain_len.Goals as goal

pub returns-then-near-lt-LANES : goal.returns-then-near-lt-LANES
returns-then-near-lt-LANES c = grind (arith, nat_tests, common_steps, more_plain, none_plain)

pub loop-at-init : goal.loop-at-init
loop-at-init c = more_plain c.args.bytes.now 0 16 (none_plain c.args.bytes.now) (omega (arith, c.if-bytes-lt-LANES.false)) (λ i lt. c.plain_lanes-near.ensures.plain i (omega (arith, lt, c.if-near-lt-LANES.false)))

pub loop-at-preserved : goal.loop-at-preserved
loop-at-preserved c = more_plain c.args.bytes.now c.loop-at.at 64 c.loop-at.invariant (omega (arith, c.if-bytes-at-ge-BLOCK.true, c.loop-at.invariant.within)) (λ i h. subst IsPlain (c.load.ensures i h) (c.others.ensures i h (c.are_zero.ensures c.if-are_zero.true i h)))
