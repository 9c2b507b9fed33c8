use Rattle.os_quote.proofs.Common.{◌<◌, arith, kind_bits, second_bits}
use Rattle.os_quote.proofs.lemmas.SuspectLanes.{pair_of, none_by_pair, none_by_lead, none_by_three}
use Rattle.os_quote.proofs.find_lanes.clear_len.Goals as goal

pub returns-then-are_zero-clause-clear : goal.returns-then-are_zero-clause-clear
returns-then-are_zero-clause-clear c i h = grind (arith, kind_bits, none_by_lead)

pub returns-then-are_zero-2-clause-clear : goal.returns-then-are_zero-2-clause-clear
returns-then-are_zero-2-clause-clear c i h = grind (arith, pair_of, kind_bits, second_bits, none_by_pair)

pub returns-then-are_zero-3-clause-clear : goal.returns-then-are_zero-3-clause-clear
returns-then-are_zero-3-clause-clear c i h = none_by_three (c.load.ensures i h) (c.load-2.ensures i h) (c.load-3.ensures i h) (c.kind_bits-leads.ensures i h) (c.second_bits.ensures i h) (c.third_bits.ensures i h) (c.and-pairs.ensures i h) (c.and-suspects.ensures i h) (c.are_zero-3.ensures c.if-are_zero-3.true i h)

pub returns-clause-clear : goal.returns-clause-clear
returns-clause-clear c i l =
    let h : i < 64 = omega (arith, l, c.leading_zero.ensures.within) in
    none_by_three (c.load.ensures i h) (c.load-2.ensures i h) (c.load-3.ensures i h) (c.kind_bits-leads.ensures i h) (c.second_bits.ensures i h) (c.third_bits.ensures i h) (c.and-pairs.ensures i h) (c.and-suspects.ensures i h) (c.leading_zero.ensures.zero i l h)
