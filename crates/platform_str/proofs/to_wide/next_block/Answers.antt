use Rattle.wtf8_core.proofs.lemmas.vectors.Windows.{from_start, zeros}
use Rattle.platform_str.proofs.{Common.◌+◌, Common.arith, Common.rules, lemmas.ToWide.some_chosen}
use Rattle.platform_str.proofs.to_wide.next_block.Goals as goal

pub put_in_zeros-requires-clause-zeros : goal.put_in_zeros-requires-clause-zeros
put_in_zeros-requires-clause-zeros c = zeros 19

pub returns-then-bytes-ge19-clause-added : goal.returns-then-bytes-ge19-clause-added
returns-then-bytes-ge19-clause-added c =
    some_chosen c.args.count c.args.bytes.now c.unit_lanes.result c.unit_mask.result (search rules) c.requires.within c.unit_mask.ensures.few (λ i h. c.unit_lanes.ensures i (omega (arith, h, c.requires.count))) c.unit_mask.ensures.bits

pub returns-clause-added : goal.returns-clause-added
returns-clause-added c =
    let same = from_start _ c.args.bytes.now c.put_in_zeros.ensures.copied in
    some_chosen c.args.count c.args.bytes.now c.unit_lanes-2.result c.unit_mask-2.result (search rules) c.requires.within c.unit_mask-2.ensures.few
    (λ i h. rw (same i, same (1 + i), same (2 + i), same (3 + i)) at (c.unit_lanes-2.ensures i (omega (arith, h, c.requires.count))))
    (λ i h. rw (same i, same (1 + i)) at (c.unit_mask-2.ensures.bits i h))
