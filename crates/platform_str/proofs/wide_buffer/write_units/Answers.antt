use Rattle.platform_str.proofs.Common.{◌++◌, append-nil, ap, sym, subst, refl, ◌∙◌, arith, length, length-drop, length-take-le, take, drop, nat_tests, common_steps}
use Rattle.wtf8_core.proofs.lemmas.buffers.Truncated.{none_yet}
use Rattle.platform_str.specs.ToWide.{Appends, units_after_first}
use Rattle.platform_str.proofs.lemmas.ToWide.{appended, begins_with, block_ascii, no_units, none_after}
use Rattle.platform_str.proofs.wide_buffer.write_units.Goals as goal

pub returns-then-is_empty : goal.returns-then-is_empty
returns-then-is_empty c = grind (arith, nat_tests, common_steps, no_units, none_yet, c.requires)

pub loop-rest-init : goal.loop-rest-init
loop-rest-init c = grind (arith, nat_tests, common_steps, begins_with, none_yet, c.requires, c.first_unit.ensures, c.push_truncated-count.ensures.len, c.push_truncated-count.ensures.written)

pub loop-rest-preserved-then-goes_on_in_ascii : goal.loop-rest-preserved-then-goes_on_in_ascii
loop-rest-preserved-then-goes_on_in_ascii c =
    let rest = c.loop-rest.rest.now in
    let block = take 16 (drop 1 rest) in
    let room = c.goes_on_in_ascii.ensures.room c.if-goes_on_in_ascii.true in
    let adds = block_ascii 16 rest room (c.goes_on_in_ascii.ensures.ascii c.if-goes_on_in_ascii.true) ∙ ap (λ r. block ++ units_after_first r) (sym c.split_at.ensures.back) in
    let all = c.loop-rest.invariant.2 in
    let written = subst (λ units. Appends units c.loop-rest.buffer c.loop-rest.count c.push_truncated-count-then-goes_on_in_ascii.new.buffer c.push_truncated-count-then-goes_on_in_ascii.result) c.lanes.ensures.units c.push_truncated-count-then-goes_on_in_ascii.ensures.written in (
      omega (arith, room, c.split_at.ensures.back_len),
      omega (arith, room, c.loop-rest.invariant.1, c.split_at.ensures.back_len, c.push_truncated-count-then-goes_on_in_ascii.ensures.len, ap length c.lanes.ensures.units, length-take-le 16 (drop 1 rest) (omega (arith, room, length-drop 1 rest))),
      (all.0 ++ block, written all.0 c.args.buffer.now all.1, appended _ all.0 block (units_after_first c.split_at.result.1.now) _ refl adds ∙ all.2),
    )

pub returns : goal.returns
returns c = grind (arith, nat_tests, common_steps, none_after, append-nil, c.loop-rest-test.false)
