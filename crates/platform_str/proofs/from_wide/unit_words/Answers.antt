use Rattle.std.proofs.Common.{ℕ, ◌+◌, ◌*◌, ◌/◌, ◌%◌, ◌^◌, ltb, leb, eqb, get_or, ap, ◌∙◌, arith}
use Rattle.std.proofs.lemmas.Simd.{Each1-all, Each2-splat}
use Rattle.platform_str.specs.FromWide.{word_bytes}
use Rattle.platform_str.proofs.lemmas.{SixteenLanes.loaded, SixteenLanes.loaded_first, SixteenLanes.widened, SixteenLanes.splat, SixteenLanes.sums_fit, SixteenLanes.both, SixteenLanes.choice, FromWideLanes.six_bits, FromWideLanes.lane_given}
use Rattle.platform_str.proofs.from_wide.unit_words.Goals as goal

pub nonzero_rem-middle : goal.nonzero_rem-middle
nonzero_rem-middle c = Each2-splat _ _ 16 0x40 (Each1-all _ (λ _. omega arith) _)

pub nonzero_rem-last : goal.nonzero_rem-last
nonzero_rem-last c = Each2-splat _ _ 16 0x40 (Each1-all _ (λ _. omega arith) _)

pub overflow_cast-result : goal.overflow_cast-result
overflow_cast-result c = sums_fit _ _

pub overflow_cast-result-2 : goal.overflow_cast-result-2
overflow_cast-result-2 c = sums_fit _ _

pub returns : goal.returns
returns c i h =
    let us = c.args.units.now in
    let fits = λ (k : ℕ). (c.type_inv.units k).fits in
    let before = loaded_first us (omega (arith, c.requires)) in
    let unit = loaded 1 us (omega (arith, c.requires)) in
    let after = loaded 2 us (omega (arith, c.requires)) in
    let plus = λ (a b : ℕ). (a + b) % 2 ^ 16 in
    let left = λ (a b : ℕ). a * 2 ^ b % 2 ^ 16 in
    let right = λ (a b : ℕ). a / 2 ^ b in
    let rest = λ (a b : ℕ). a % b in
    let ends = six_bits before unit in
    let begins = six_bits unit after in
    let high = both plus (both plus (both left unit (splat 4)) (both right after (splat 6))) (splat 0x8090) in
    let value = choice eqb begins (splat 3511) high unit in
    let lead = both plus (choice eqb begins (splat 3511) (splat 0xF0) (splat 0xE0)) (both right value (splat 12)) in
    let middle = both plus (splat 0x80) (both rest (both right value (splat 6)) (splat 0x40)) in
    let last = both plus (splat 0x80) (both rest value (splat 0x40)) in
    let first = choice leb (splat 0x800) unit lead (both plus (splat 0xC0) (both right value (splat 6))) in
    let first = choice ltb unit (splat 0x80) unit (choice eqb ends (splat 3511) last first) in
    let second = choice leb (splat 0x800) unit middle last in
    let count = choice leb (splat 0x800) unit (splat 3) (choice ltb unit (splat 0x80) (splat 1) (splat 2)) in
    let count = choice eqb ends (splat 3511) (splat 1) count in
    let low = both plus first (both left second (splat 8)) in
    let high = both plus last (both left count (splat 8)) in
    let words = both (λ a b. (a + b) % 2 ^ 32) (widened low) (both (λ a b. a * 2 ^ b % 2 ^ 32) (widened high) (splat 16)) in
    ap word_bytes (words.each i h)
    ∙ lane_given (get_or us i 0) (get_or us (1 + i) 0) (get_or us (2 + i) 0) (fits i) (fits (1 + i)) (fits (2 + i))
