use Rattle.platform_str.proofs.Common.{rules, arith, nat_tests, common_steps}
use Rattle.platform_str.proofs.lemmas.{FromWideCounts.counted, FromWideCounts.counted_prefix, FromWideCounts.counted_few, FromWideCounts.count_few, FromWideCounts.counted_none, FromWideCounts.pairs_few, FromWideCounts.all_counted, FromWideCounts.string_counted, FromWide.are_units}
use Rattle.platform_str.proofs.from_wide.wtf8_len.Goals as goal

pub overflow_add-len : goal.overflow_add-len
overflow_add-len c = omega (arith, c.count_from.ensures, count_few 16 0x80 c.loop-rest.rest.now)

pub overflow_add-len-then-rest-gt16 : goal.overflow_add-len-then-rest-gt16
overflow_add-len-then-rest-gt16 c = omega (arith, c.count_from.ensures, c.count_from-then-rest-gt16.ensures, count_few 16 0x80 c.loop-rest.rest.now, count_few 16 0x800 c.loop-rest.rest.now)

pub overflow_add-len-then-rest-gt16-2 : goal.overflow_add-len-then-rest-gt16-2
overflow_add-len-then-rest-gt16-2 c = search (rules, common_steps, counted_prefix, counted_few, c.count_from.ensures, c.count_from-then-rest-gt16.ensures, c.if-rest-gt16.true)

pub overflow_add-pairs : goal.overflow_add-pairs
overflow_add-pairs c = grind (arith, nat_tests, common_steps, pairs_few, c.count_pairs-pairs.ensures)

pub overflow_add-pairs-else-rest-gt16 : goal.overflow_add-pairs-else-rest-gt16
overflow_add-pairs-else-rest-gt16 c = grind (arith, nat_tests, common_steps, pairs_few)

pub loop-rest-preserved-then-rest-gt16 : goal.loop-rest-preserved-then-rest-gt16
loop-rest-preserved-then-rest-gt16 c = grind (arith, nat_tests, common_steps, counted_prefix, counted, c.split_at.ensures.back, c.count_from.ensures, c.count_from-then-rest-gt16.ensures, c.if-rest-gt16.true, c.count_pairs-pairs.ensures)

pub overflow_sub-result : goal.overflow_sub-result
overflow_sub-result c =
    let none = counted_none c.loop-rest.rest.now c.in_default.len_below in
    omega (arith, c.loop-rest.invariant.0, c.loop-rest.invariant.1, none.0, none.1, all_counted c.args.units.now (are_units c.args.units.now c.type_inv.units))

pub overflow_sub-result-2 : goal.overflow_sub-result-2
overflow_sub-result-2 c =
    let none = counted_none c.loop-rest.rest.now c.in_default.len_below in
    omega (arith, c.loop-rest.invariant.0, c.loop-rest.invariant.1, none.0, none.1, all_counted c.args.units.now (are_units c.args.units.now c.type_inv.units))

pub returns : goal.returns
returns c = λ string h.
    let none = counted_none c.loop-rest.rest.now c.in_default.len_below in
    omega (arith, c.loop-rest.invariant.0, c.loop-rest.invariant.1, none.0, none.1, string_counted string c.args.units.now (are_units c.args.units.now c.type_inv.units) h)
