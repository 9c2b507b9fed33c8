-- What vectors compute of units, lane by lane.
use Rattle.std.proofs.Common.{◌≡◌, ℕ, ◌+◌, ◌*◌, ◌/◌, ◌%◌, ◌^◌, ◌<◌, ◌≤◌, Bool, true, false, cond, ltb, leb, eqb, refl, sym, ◌∙◌, arith, List, [], ◌∷◌, ◌++◌, length, take}
use Rattle.std.specs.Int.{w32, to_le_bytes}
use Rattle.platform_str.proofs.Common.{nat_tests, false≢true, length-take, put_chunk, is_pair, encode, IsUnit, common_steps}
use Rattle.platform_str.proofs.lemmas.{LaneTests.six_and_six, LaneTests.sixes, LaneTests.take_prefix_put_chunk, SixteenLanes.splat, SixteenLanes.both, FromWideCounts.lane_is_pair, FromWide.last_gives, FromWide.high_gives, FromWide.alone_gives, FromWide.no_pair_after_low}
use Rattle.platform_str.specs.{FromWide.bytes_by_neighbours, FromWide.word_bytes, Lanes.HasLanes}

-- the high six bits of two units
pub six_bits : {us vs : List ℕ} {f g : ℕ → ℕ} → HasLanes us f → HasLanes vs g
    → HasLanes (sixes 16 us vs) (λ i. six_and_six (f i) (g i))
six_bits a b = both (λ a b. (a + b) % 2 ^ 16) (both (λ a b. a * 2 ^ b % 2 ^ 16) (both (λ a b. a / 2 ^ b) a (splat 10)) (splat 6)) (both (λ a b. a / 2 ^ b) b (splat 10))

-- four bytes as a word
abbrev pub packed : ℕ → ℕ → ℕ → ℕ → ℕ
packed f s t n = ((f + s * 2 ^ 8 % 2 ^ 16) % 2 ^ 16 + (t + n * 2 ^ 8 % 2 ^ 16) % 2 ^ 16 * 2 ^ 16 % 2 ^ 32) % 2 ^ 32

packed_bytes : (f s t n : ℕ) → f < 256 → s < 256 → t < 256 → n < 256 → word_bytes (packed f s t n) ≡ take n (f ∷ s ∷ t ∷ n ∷ [])
packed_bytes f s t n a b c d = grind (arith, nat_tests, common_steps)

-- the lanes, of a unit between two others; t says whether it begins a pair, e whether it ends one
abbrev lane_value : Bool → ℕ → ℕ → ℕ
lane_value t u v = cond t (((u * 2 ^ 4 % 2 ^ 16 + v / 2 ^ 6) % 2 ^ 16 + 0x8090) % 2 ^ 16) u

abbrev lane_last : ℕ → ℕ
lane_last x = (0x80 + x % 0x40) % 2 ^ 16

abbrev lane_first : Bool → Bool → ℕ → ℕ → ℕ
lane_first e t u x = cond (ltb u 0x80) u (cond e (lane_last x) (cond (leb 0x800 u) ((cond t 0xF0 0xE0 + x / 2 ^ 12) % 2 ^ 16) ((0xC0 + x / 2 ^ 6) % 2 ^ 16)))

abbrev lane_second : ℕ → ℕ → ℕ
lane_second u x = cond (leb 0x800 u) ((0x80 + x / 2 ^ 6 % 0x40) % 2 ^ 16) (lane_last x)

abbrev lane_count : Bool → ℕ → ℕ
lane_count e u = cond e 1 (cond (leb 0x800 u) 3 (cond (ltb u 0x80) 1 2))

abbrev lane_word : Bool → Bool → ℕ → ℕ → ℕ
lane_word e t u x = packed (lane_first e t u x) (lane_second u x) (lane_last x) (lane_count e u)

-- by the two tests, what a word has is what the unit gives
by_tests : (b u v : ℕ) → IsUnit u → IsUnit v → (e t : Bool) → is_pair b u ≡ e → is_pair u v ≡ t → word_bytes (lane_word e t u (lane_value t u v)) ≡ bytes_by_neighbours b u v
unfolding encode
by_tests b u v i j true true p q = absurd (false≢true (sym (no_pair_after_low b u v p) ∙ q))
by_tests b u v i j true false p q =
    packed_bytes (lane_first true false u u) (lane_second u u) (lane_last u) 1 (grind (arith, nat_tests, p)) (grind (arith, nat_tests, p)) (omega arith) (omega arith)
    ∙ grind (arith, nat_tests, p)
    ∙ sym (last_gives b u v p)
by_tests b u v i j false true p q =
    packed_bytes _ _ _ _ (grind (arith, nat_tests, q)) (grind (arith, nat_tests, q)) (omega arith) (grind (arith, nat_tests, q))
    ∙ grind (arith, nat_tests, q)
    ∙ sym (high_gives b u v p q)
by_tests b u v i j false false p q =
    packed_bytes _ _ _ _ (grind (arith, nat_tests)) (grind (arith, nat_tests)) (omega arith) (grind (arith, nat_tests))
    ∙ grind (arith, nat_tests)
    ∙ sym (alone_gives b u v p q)

pub lane_given : (b u v : ℕ) → IsUnit b → IsUnit u → IsUnit v
    → word_bytes (lane_word (eqb (six_and_six b u) 3511) (eqb (six_and_six u v) 3511) u (lane_value (eqb (six_and_six u v) 3511) u v)) ≡ bytes_by_neighbours b u v
lane_given b u v h i j = rw (lane_is_pair b u h i, lane_is_pair u v i j) (by_tests b u v i j (is_pair b u) (is_pair u v) refl refl)

-- a word of at most three bytes says how many
pub few_bytes : (w : ℕ) → length (word_bytes w) ≤ 3 → w / 0x100_0000 ≤ 4
few_bytes w h = omega (arith, h, length-take (w / 0x100_0000) (to_le_bytes w32 w))

-- the bytes of a word, stored at an index
pub word_stored : (at w : ℕ) (xs : List ℕ) → at + 4 ≤ length xs → w / 0x100_0000 ≤ 4
    → take (at + w / 0x100_0000) (put_chunk at xs ((w + 0) % 256 ∷ (w + 0) / 256 % 256 ∷ (w + 0) / 256 / 256 % 256 ∷ (w + 0) / 256 / 256 / 256 % 256 ∷ [])) ≡ take at xs ++ word_bytes w
word_stored at w xs h few = grind (arith, nat_tests, common_steps, take_prefix_put_chunk)
