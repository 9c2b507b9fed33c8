use Rattle.std.proofs.Common.{ℕ, ◌<◌, ◌≡◌, List, subst, ◌+◌, ◌*◌, ◌/◌, ◌%◌, ◌^◌, ltb, leb, get_or, ◌∙◌, arith, replicate}
use Rattle.wtf8_core.proofs.Common.{and_parts}
use Rattle.std.proofs.lemmas.Simd.{Each1-all, Each2-splat}
use Rattle.platform_str.specs.Lanes.{HasLanes}
use Rattle.platform_str.proofs.{Common.zip2, lemmas.SixteenLanes.splat, lemmas.SixteenLanes.both, lemmas.SixteenLanes.choice, lemmas.SixteenLanes.from_first, lemmas.ToWide.two_lanes, lemmas.ToWide.lane_is_unit, lemmas.ToWide.lane_without_pair}
use Rattle.platform_str.proofs.to_wide.unit_lanes.Goals as goal

abbrev plus : ℕ → ℕ → ℕ
plus a b = (a + b) % 2 ^ 16

-- the bits of lanes and of continuations after them
joined : {xs ys : List ℕ} {f g : ℕ → ℕ} → HasLanes xs f → HasLanes ys g
    → HasLanes (zip2 plus (zip2 (λ a b. a * b % 2 ^ 16) xs (replicate 16 0x40)) (zip2 (λ a b. a % b) ys (replicate 16 0x40))) (λ i. two_lanes (f i) (g i))
joined a b = both plus (both (λ a b. a * b % 2 ^ 16) a (splat 0x40)) (both (λ a b. a % b) b (splat 0x40))

pub nonzero_rem-two : goal.nonzero_rem-two
nonzero_rem-two c = Each2-splat _ _ 16 0x40 (Each1-all _ (λ _. omega arith) _)

pub nonzero_rem-three : goal.nonzero_rem-three
nonzero_rem-three c = Each2-splat _ _ 16 0x40 (Each1-all _ (λ _. omega arith) _)

pub nonzero_div-high : goal.nonzero_div-high
nonzero_div-high c = Each2-splat _ _ 16 0x10 (Each1-all _ (λ _. omega arith) _)

pub nonzero_rem-low : goal.nonzero_rem-low
nonzero_rem-low c = Each2-splat _ _ 16 0x400 (Each1-all _ (λ _. omega arith) _)

pub nonzero_rem-unit : goal.nonzero_rem-unit
nonzero_rem-unit c = Each2-splat _ _ 16 0x800 (Each1-all _ (λ _. omega arith) _)

pub returns-then-are_below : goal.returns-then-are_below
returns-then-are_below c i h =
    let at = λ (k : ℕ). get_or c.args.bytes.now k 0 in
    let first = c.lanes-first.ensures.lanes in
    let two = joined first c.lanes.ensures.lanes in
    let unit = choice leb (splat 0xE0) first (joined two c.lanes-2.ensures.lanes) (both (λ a b. a % b) two (splat 0x800)) in
    let none = and_parts c.are_below.result c.are_below-then-not-pairs.result c.if-are_below.true in
    let same : 0 + i ≡ i = omega arith in
    let before = subst (λ k. at k < 0xF0) same (c.are_below.ensures none.0 i h) in
    (choice ltb first (splat 0x80) first unit).each i h
    ∙ lane_without_pair (at i) (at (1 + i)) (at (2 + i)) (at (3 + i)) (c.type_inv.bytes (1 + i)).fits before (c.are_below-then-not-pairs.ensures none.1 i h)

pub returns : goal.returns
returns c i h =
    let at = λ (k : ℕ). get_or c.args.bytes.now k 0 in
    let before = from_first c.args.bytes.now c.lanes-before.ensures.lanes in
    let first = c.lanes-first.ensures.lanes in
    let two = joined first c.lanes.ensures.lanes in
    let three = joined two c.lanes-2.ensures.lanes in
    let high = both plus (both (λ a b. a / b) three (splat 0x10)) (splat 0xD7C0) in
    let low = both plus (both (λ a b. a % b) three (splat 0x400)) (splat 0xDC00) in
    let unit = choice leb (splat 0xE0) first three (both (λ a b. a % b) two (splat 0x800)) in
    let unit = choice leb (splat 0xF0) before low (choice leb (splat 0xF0) first high unit) in
    (choice ltb first (splat 0x80) first unit).each i h ∙ lane_is_unit (at i) (at (1 + i)) (at (2 + i)) (at (3 + i)) (c.type_inv.bytes (1 + i)).fits
