use Rattle.platform_str.proofs.Common.{[], ◌∷◌, ◌++◌, ap, arith, sym, ◌∙◌, append-nil, take, drop, length, length-drop, length-take-le, slice_index, nat_tests, common_steps}
use Rattle.platform_str.specs.ToWide.{units_after_first}
use Rattle.platform_str.proofs.lemmas.ToWide.{none_after, appended, begins_with, block_ascii, one_ascii, no_units}
use Rattle.platform_str.proofs.to_wide.push_units.Goals as goal

pub returns-then-is_empty-clause-ok : goal.returns-then-is_empty-clause-ok
returns-then-is_empty-clause-ok g c = grind (arith, nat_tests, common_steps, no_units, append-nil, c.requires)

pub loop-rest-init : goal.loop-rest-init
loop-rest-init g c = grind (arith, nat_tests, common_steps, begins_with, appended, c.requires, c.first_unit.ensures, c.in_ok-push.ensures.items, c.in_ok-push.ensures.capacity, c.in_ok-push.ensures.len)

pub loop-rest-preserved-then-goes_on_in_ascii : goal.loop-rest-preserved-then-goes_on_in_ascii
loop-rest-preserved-then-goes_on_in_ascii g c =
    let rest = c.loop-rest.rest.now in
    let block = take 16 (drop 1 rest) in
    let room = c.goes_on_in_ascii.ensures.room c.if-goes_on_in_ascii.true in
    let adds = block_ascii 16 rest room (c.goes_on_in_ascii.ensures.ascii c.if-goes_on_in_ascii.true) ∙ ap (λ r. block ++ units_after_first r) (sym c.split_at.ensures.back) in
    let done = c.in_ok-extend_from_slice.ensures.items ∙ ap (λ x. c.loop-rest.units.items ++ x) c.lanes.ensures.units in (
      omega (arith, room, c.split_at.ensures.back_len),
      appended _ c.loop-rest.units.items block (units_after_first c.split_at.result.1.now) _ done adds ∙ c.loop-rest.invariant.1,
      omega (arith, c.loop-rest.invariant.2, c.in_ok-extend_from_slice.ensures.capacity),
      omega (arith, room, c.loop-rest.invariant.3, c.split_at.ensures.back_len, c.in_ok-extend_from_slice.ensures.len, ap length c.lanes.ensures.units, length-take-le 16 (drop 1 rest) (omega (arith, room, length-drop 1 rest))),
    )

pub loop-rest-preserved-then-rest-lt128 : goal.loop-rest-preserved-then-rest-lt128
loop-rest-preserved-then-rest-lt128 g c =
    let rest = c.loop-rest.rest.now in
    let x = slice_index rest 1 in
    let adds = one_ascii rest c.loop-rest-test.true c.if-rest-lt128.true ∙ ap (λ r. x ∷ units_after_first r) (sym c.split_at-then-rest-lt128.ensures.back) in (
      omega (arith, c.loop-rest-test.true, c.split_at-then-rest-lt128.ensures.back_len),
      appended _ c.loop-rest.units.items (x ∷ []) (units_after_first c.split_at-then-rest-lt128.result.1.now) _ (c.in_ok-push-2.ensures.items ∙ ap (λ u. c.loop-rest.units.items ++ (u ∷ [])) c.from.ensures) adds ∙ c.loop-rest.invariant.1,
      omega (arith, c.loop-rest.invariant.2, c.in_ok-push-2.ensures.capacity),
      omega (arith, c.loop-rest-test.true, c.loop-rest.invariant.3, c.split_at-then-rest-lt128.ensures.back_len, c.in_ok-push-2.ensures.len),
    )

pub returns-clause-ok : goal.returns-clause-ok
returns-clause-ok g c = grind (arith, nat_tests, common_steps, none_after, append-nil, c.loop-rest-test.false)
