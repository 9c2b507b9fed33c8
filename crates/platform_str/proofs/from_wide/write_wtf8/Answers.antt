use Rattle.std.proofs.lemmas.{List.map-id, Simd.Each1-from_get_or, Simd.length-put_chunk, Simd.take_more_put_chunk}
use Rattle.platform_str.proofs.Common.{rules, ◌≡◌, ◌+◌, ◌≤◌, ℕ, map, put_chunk, ◌++◌, ◌<◌, length, length-append, length-take-le, length-drop, take, drop, slice_index, ap, ◌∙◌, sym, arith, take_all, append-nil, recursion_from_All, nat_tests, common_steps}
use Rattle.platform_str.specs.FromWide.{bytes_by_neighbours, bytes_after_first}
use Rattle.platform_str.proofs.lemmas.{ToWide.appended, FromWide.are_units, FromWide.string_given, FromWide.first_gives, FromWide.block_ascii, FromWide.next_gives, FromWide.none_after}
use Rattle.platform_str.proofs.from_wide.write_wtf8.Goals as goal

pub put_unit-end-requires : goal.put_unit-end-requires
put_unit-end-requires c =
    let us = c.args.units.now in
    let gives = first_gives us c.unit_or_zero.result (search rules) c.unit_or_zero.ensures in
    omega (arith, c.requires _ (string_given us (are_units us c.type_inv.units)), ap length gives, length-append (bytes_by_neighbours 0 (slice_index us 0) c.unit_or_zero.result) (bytes_after_first us))

pub loop-rest-init : goal.loop-rest-init
loop-rest-init c =
    let us = c.args.units.now in
    let gives = first_gives us c.unit_or_zero.result (search rules) c.unit_or_zero.ensures in
    let written = ap (λ x. x ++ bytes_after_first us) c.put_unit-end.ensures.written ∙ sym gives in
    let room = c.requires _ (string_given us (are_units us c.type_inv.units)) in
    (search rules, written, omega (arith, room, c.put_unit-end.ensures.end, c.put_unit-end.ensures.len, ap length gives, length-append (bytes_by_neighbours 0 (slice_index us 0) c.unit_or_zero.result) (bytes_after_first us)))

pub overflow_cast-block : goal.overflow_cast-block
overflow_cast-block c =
    let ascii = c.goes_on_in_ascii.ensures.ascii c.if-goes_on_in_ascii.true in
    Each1-from_get_or _ _ 0 (λ i h. omega (arith, ascii i 0 h))

pub store-bytes : goal.store-bytes
store-bytes c =
    let rest = c.loop-rest.rest.now in
    let block = take 16 (drop 1 rest) in
    let room = c.goes_on_in_ascii.ensures.room c.if-goes_on_in_ascii.true in
    let gives = block_ascii 16 rest room (recursion_from_All (λ u. u < 0x80) _ (c.goes_on_in_ascii.ensures.ascii c.if-goes_on_in_ascii.true)) in
    omega (arith, c.loop-rest.invariant.2, room, ap length gives, length-append block (bytes_after_first (drop 16 rest)), length-take-le 16 (drop 1 rest) (omega (arith, room, length-drop 1 rest)))

pub loop-rest-preserved-then-goes_on_in_ascii : goal.loop-rest-preserved-then-goes_on_in_ascii
loop-rest-preserved-then-goes_on_in_ascii c =
    let rest = c.loop-rest.rest.now in
    let block = take 16 (drop 1 rest) in
    let room = c.goes_on_in_ascii.ensures.room c.if-goes_on_in_ascii.true in
    let ascii = recursion_from_All (λ u. u < 0x80) _ (c.goes_on_in_ascii.ensures.ascii c.if-goes_on_in_ascii.true) in
    let gives = block_ascii 16 rest room ascii ∙ ap (λ r. block ++ bytes_after_first r) (sym c.split_at.ensures.back) in
    let size = length-take-le 16 (drop 1 rest) (omega (arith, room, length-drop 1 rest)) in
    let end = c.loop-rest.end in
    let bytes = c.loop-rest.bytes in
    let stored = put_chunk end bytes (map (λ (u : ℕ). u) block) in
    let long : end + 16 ≤ length bytes = omega (arith, c.loop-rest.invariant.2, ap length gives, length-append block (bytes_after_first c.split_at.result.1.now), size) in
    let written : take (end + 16) stored ≡ take end bytes ++ block = rw (map-id block) (take_more_put_chunk end bytes block (end + 16) (omega (arith, size)) long) in (
      omega (arith, room, c.split_at.ensures.back_len),
      appended _ (take end bytes) block _ _ written gives ∙ c.loop-rest.invariant.1,
      omega (arith, c.loop-rest.invariant.2, length-put_chunk end bytes (map (λ (u : ℕ). u) block), ap length gives, length-append block (bytes_after_first c.split_at.result.1.now), size),
    )

pub overflow_add-end : goal.overflow_add-end
overflow_add-end c = omega (arith, c.loop-rest.invariant.2)

pub put_block-end-requires-clause-room : goal.put_block-end-requires-clause-room
put_block-end-requires-clause-room c = omega (arith, c.loop-rest.invariant.2)

pub loop-rest-preserved-then-rest-gt20 : goal.loop-rest-preserved-then-rest-gt20
loop-rest-preserved-then-rest-gt20 c =
    let put = c.put_block-end.ensures in
    let split = c.split_at-then-rest-gt20.ensures in (
      omega (arith, split.back_len, c.if-rest-gt20.true),
      ap (λ r. take c.put_block-end.result c.put_block-end.new.bytes ++ bytes_after_first r) split.back ∙ put.written ∙ c.loop-rest.invariant.1,
      omega (arith, put.end, put.len, ap (λ r. length (bytes_after_first r)) split.back, c.loop-rest.invariant.2),
    )

pub put_unit-end-requires-else-rest-gt20 : goal.put_unit-end-requires-else-rest-gt20
put_unit-end-requires-else-rest-gt20 c =
    let rest = c.loop-rest.rest.now in
    let after = c.unit_or_zero-else-rest-gt20 in
    let gives = next_gives rest after.result c.loop-rest-test.true after.ensures in
    omega (arith, c.loop-rest.invariant.2, ap length gives, length-append (bytes_by_neighbours (slice_index rest 0) (slice_index rest 1) after.result) (bytes_after_first (drop 1 rest)))

pub loop-rest-preserved : goal.loop-rest-preserved
loop-rest-preserved c =
    let rest = c.loop-rest.rest.now in
    let after = c.unit_or_zero-else-rest-gt20 in
    let put = c.put_unit-end-else-rest-gt20.ensures in
    let split = c.split_at-else-rest-gt20.ensures in
    let unit = bytes_by_neighbours (slice_index rest 0) (slice_index rest 1) after.result in
    let gives = next_gives rest after.result c.loop-rest-test.true after.ensures ∙ ap (λ r. unit ++ bytes_after_first r) (sym split.back) in (
      omega (arith, split.back_len, c.loop-rest-test.true),
      appended _ (take c.loop-rest.end c.loop-rest.bytes) unit _ _ put.written gives ∙ c.loop-rest.invariant.1,
      omega (arith, c.loop-rest.invariant.2, put.end, put.len, ap length gives, length-append unit (bytes_after_first c.split_at-else-rest-gt20.result.1.now)),
    )

pub returns : goal.returns
returns c = grind (arith, nat_tests, common_steps, none_after, string_given, are_units, take_all, append-nil, c.loop-rest-test.false, c.type_inv.units)
