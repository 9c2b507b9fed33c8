use Rattle.std.proofs.Common.{◌+◌, ◌/◌, leb, eqb, not, get_or, ◌∙◌, arith}
use Rattle.std.proofs.lemmas.Simd.{Each1-all, Each2-splat}
use Rattle.platform_str.proofs.lemmas.{SixteenLanes.splat, SixteenLanes.both, SixteenLanes.choice, SixteenLanes.from_first, SixteenLanes.bit_of, ToWide.lane_is_bit}
use Rattle.platform_str.proofs.to_wide.unit_mask.Goals as goal

pub nonzero_div-halves : goal.nonzero_div-halves
nonzero_div-halves c = Each2-splat _ _ 16 0x40 (Each1-all _ (λ _. omega arith) _)

pub returns-clause-bits : goal.returns-clause-bits
returns-clause-bits c i h =
    let before = from_first c.args.bytes.now c.lanes-2.ensures.lanes in
    let lead = choice (λ a b. not (eqb a b)) (both (λ a b. a / b) c.lanes.ensures.lanes (splat 0x40)) (splat 2) (splat 1) (splat 0) in
    bit_of (choice leb (splat 0xF0) before (splat 1) lead) c.args.count i c.requires.count h
    ∙ lane_is_bit (get_or c.args.bytes.now i 0) (get_or c.args.bytes.now (1 + i) 0)
