use Rattle.platform_str.proofs.Common.{◌+◌, drop, arith, ap, sym, ◌∙◌, pairs}
use Rattle.platform_str.proofs.lemmas.{FromWide.are_units, LaneTests.count_is_splat, FromWideCounts.pairs_below, FromWideCounts.pairs_prefix, FromWideLanes.six_bits, SixteenLanes.loaded, SixteenLanes.loaded_first}
use Rattle.platform_str.proofs.from_wide.count_pairs.Goals as goal

pub returns : goal.returns
returns c =
    let us = c.args.units.now in
    let lanes = six_bits (loaded_first us (omega (arith, c.requires))) (loaded 1 us (omega (arith, c.requires))) in
    ap (λ n. n + pairs (drop 16 us)) (count_is_splat 16 3511 _ lanes.many (omega arith)) ∙ pairs_prefix 16 us (omega (arith, c.requires)) (are_units us c.type_inv.units)

pub returns-then-count_from-eq0 : goal.returns-then-count_from-eq0
returns-then-count_from-eq0 c = omega (arith, pairs_below 16 c.args.units.now (sym c.count_from.ensures ∙ c.if-count_from-eq0.true))
