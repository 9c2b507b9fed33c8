-- Bytes whose bits say that nothing is wrong may follow those before them.
use Rattle.wtf8_core.proofs.Common.{nat_tests, common_steps, List, get_or, ◌≡◌, ◌≢◌, ◌⊎◌, inl, inr, ⊎_elim, ℕ, suc, ◌+◌, ◌-◌, ◌*◌, ◌/◌, ◌^◌, max, min, ◌<◌, ◌≤◌, Bool, true, eqb, bit_and, bit_or, bit_xor, refl, sym, ap, ◌∙◌, arith, eq-eqb, cases_lt, bit_at, IsContinuation, MayFollow, MayFollowAll, EachMayFollow, with_zeros_before}
use Rattle.std.proofs.lemmas.Nat.Bits.{and_pow, and_high_mask, bit_at_or}
use Rattle.wtf8_core.specs.{PairBits.pair_bits, PairBits.continuation_due, PairBits.error_bits, PairBits.surrogate_pair_difference, declared.vectors.Encoding.Encoding, declared.vectors.Encoding.TheVariants.Utf8}
use Rattle.wtf8_core.proofs.lemmas.vectors.ComputedTests.{fails}

-- bit 80 is the greater of the two bits 80
later_is : (x y : ℕ) → continuation_due x y ≡ max (bit_at (x - 0x70) 7) (bit_at (y - 0x60) 7) * 2 ^ 7
later_is x y = and_pow (bit_or (x - 0x70) (y - 0x60)) 7 ∙ ap (λ t. t * 2 ^ 7) (bit_at_or (x - 0x70) (y - 0x60) 7)

-- and is set if one of them is
is_later : (x y : ℕ) → x < 256 → y < 256 → (0xF0 ≤ x) ⊎ (0xE0 ≤ y) → continuation_due x y ≡ 0x80
is_later x y u v (inl p) = omega (arith, later_is x y, u, v, p)
is_later x y u v (inr p) = omega (arith, later_is x y, u, v, p)

-- a first byte and the upper half of a second one for which the tables give no bits but these
abbrev pub is_early : ℕ → ℕ → Bool
is_early z h = eqb (bit_and (bit_xor (pair_bits z (h * 16)) 0) 0xBF) 0

abbrev pub is_late : ℕ → ℕ → Bool
is_late z h = eqb (bit_and (bit_xor (pair_bits z (h * 16)) 0x80) 0xBF) 0

abbrev pub is_clear : ℕ → ℕ → Bool
is_clear z h = eqb (bit_xor (pair_bits z (h * 16)) 0) 0

same_half : (z b : ℕ) → pair_bits z (b / 16 * 16) ≡ pair_bits z b
same_half z b = let e : b / 16 * 16 / 16 ≡ b / 16 = omega arith in rw e refl

-- what the bits say where no code point continues
module _ (z b : ℕ) (u : z < 256) (v : b < 256) (e : is_early z (b / 16) ≡ true) where
  early_begins : z < 0xC0 → (b < 0x80) ⊎ (0xC0 ≤ b)
  early_begins s =
      ⊎_elim inl (λ l. ⊎_elim (λ m. absurd (fails is_early 0 0xC0 8 4 refl z (b / 16) (omega arith) (omega (arith, s)) (omega (arith, l)) (omega (arith, m)) e)) inr (cases_lt b 0xC0)) (cases_lt b 0x80)

  early_continues : 0xC0 ≤ z → IsContinuation b
  early_continues s =
      ⊎_elim (λ l. absurd (fails is_early 0xC0 0x40 0 8 refl z (b / 16) s (omega (arith, u)) (omega arith) (omega (arith, l)) e))
      (λ l. ⊎_elim (λ m. (l, omega (arith, m))) (λ m. absurd (fails is_early 0xC0 0x40 12 4 refl z (b / 16) s (omega (arith, u)) (omega (arith, m)) (omega (arith, v)) e)) (cases_lt b 0xC0))
      (cases_lt b 0x80)

  early_follows : MayFollow z b
  early_follows = record {
    lead = λ s.
        let k = early_continues s in (
          ⊎_elim (λ l. absurd (fails is_early 0xC0 2 8 4 refl z (b / 16) s (omega (arith, l)) (omega (arith, k.0)) (omega (arith, k.1)) e)) (λ l. l) (cases_lt z 0xC2),
          ⊎_elim (λ l. absurd (fails is_early 0xF5 11 8 4 refl z (b / 16) (omega (arith, l)) (omega (arith, u)) (omega (arith, k.0)) (omega (arith, k.1)) e)) (λ l. l) (cases_lt 0xF4 z),
        );
    three_long = λ s.
        let k = early_continues (omega (arith, s)) in
        ⊎_elim (λ l. absurd (fails is_early 0xE0 1 8 2 refl z (b / 16) (omega (arith, s)) (omega (arith, s)) (omega (arith, k.0)) (omega (arith, l)) e)) (λ l. l) (cases_lt b 0xA0);
    four_long = λ s.
        let k = early_continues (omega (arith, s)) in
        ⊎_elim (λ l. absurd (fails is_early 0xF0 1 8 1 refl z (b / 16) (omega (arith, s)) (omega (arith, s)) (omega (arith, k.0)) (omega (arith, l)) e)) (λ l. l) (cases_lt b 0x90);
    within = λ s.
        let k = early_continues (omega (arith, s)) in
        ⊎_elim (λ l. l) (λ l. absurd (fails is_early 0xF4 1 9 3 refl z (b / 16) (omega (arith, s)) (omega (arith, s)) (omega (arith, l)) (omega (arith, k.1)) e)) (cases_lt b 0x90);
  }

-- and where one does
module _ (z b : ℕ) (u : z < 256) (v : b < 256) (e : is_late z (b / 16) ≡ true) where
  late_first : IsContinuation z
  late_first =
      ⊎_elim (λ l. absurd (fails is_late 0 0x80 0 16 refl z (b / 16) (omega arith) l (omega arith) (omega (arith, v)) e))
      (λ l. ⊎_elim (λ m. (l, omega (arith, m))) (λ m. absurd (fails is_late 0xC0 0x40 0 16 refl z (b / 16) m (omega (arith, u)) (omega arith) (omega (arith, v)) e)) (cases_lt z 0xC0))
      (cases_lt z 0x80)

  late_second : IsContinuation b
  late_second =
      ⊎_elim (λ l. absurd (fails is_late 0x80 0x40 0 8 refl z (b / 16) late_first.0 (omega (arith, late_first.1)) (omega arith) (omega (arith, l)) e))
      (λ l. ⊎_elim (λ m. (l, omega (arith, m))) (λ m. absurd (fails is_late 0x80 0x40 12 4 refl z (b / 16) late_first.0 (omega (arith, late_first.1)) (omega (arith, m)) (omega (arith, v)) e)) (cases_lt b 0xC0))
      (cases_lt b 0x80)

-- the second byte of a surrogate has bit 40
no_surrogate : (b : ℕ) → b < 0xC0 → bit_xor (pair_bits 0xED b) 0 ≡ 0 → b < 0xA0
no_surrogate b u e = grind (arith, nat_tests, common_steps, fails, eq-eqb, same_half)

-- if a low surrogate begins after a high one, this is 0
pair_is : (w x z b : ℕ) → x < 256 → b < 256 → w ≡ 0xED → 0xA0 ≤ x → x < 0xB0 → z ≡ 0xED → 0xB0 ≤ b → b < 0xC0 → surrogate_pair_difference w x z b ≡ 0
pair_is w x z b u v p q r s l m =
    let high : bit_and x 0xF0 ≡ 0xA0 = and_high_mask 8 4 (omega arith) x u ∙ omega (arith, q, r) in
    let low : bit_and b 0xF0 ≡ 0xB0 = and_high_mask 8 4 (omega arith) b v ∙ omega (arith, l, m) in
    rw (p, s, high, low) refl

module _ (s : Encoding) (w x y z b : ℕ) (ux : x < 256) (uy : y < 256) (uz : z < 256) (ub : b < 256) (right : bit_and (error_bits x y z b) 0xBF ≡ 0) (unpaired : (error_bits x y z b ≡ 0) ⊎ (surrogate_pair_difference w x z b ≢ 0)) (plain : s ≡ Utf8 → error_bits x y z b ≡ 0) where
  when_early : x < 0xF0 → y < 0xE0 → continuation_due x y ≡ 0 → MayFollowAll s w x y z b
  when_early p q e =
      let early : is_early z (b / 16) ≡ true = eq-eqb _ _ (ap (λ n. bit_and (bit_xor n 0) 0xBF) (same_half z b) ∙ ap (λ n. bit_and (bit_xor (pair_bits z b) n) 0xBF) (sym e) ∙ right) in
      let continues = early_continues z b uz ub early in
      record {
        begins = λ s. early_begins z b uz ub early s.second;
        continues = λ s. ⊎_elim (λ l. absurd (omega (arith, l, p))) (λ t. ⊎_elim (λ l. absurd (omega (arith, l, q))) continues t) s;
        follows = early_follows z b uz ub early;
        unpaired = λ i j k l. ⊎_elim (λ m. m) (λ m. ⊎_elim
            (λ zero_bits. omega (arith, m, when_zero l zero_bits))
            (λ n. absurd (n (pair_is w x z b ux ub i j k l m (omega (arith, (continues (omega (arith, l))).1)))))
            unpaired) (cases_lt b 0xB0);
        plain = λ f l. when_zero l (plain f);
      }
    where
      when_zero : z ≡ 0xED → error_bits x y z b ≡ 0 → b < 0xA0
      when_zero l n =
          let c = early_continues z b uz ub (eq-eqb _ _ (ap (λ n. bit_and (bit_xor n 0) 0xBF) (same_half z b) ∙ ap (λ n. bit_and (bit_xor (pair_bits z b) n) 0xBF) (sym e) ∙ right)) (omega (arith, l)) in
          no_surrogate b (omega (arith, c.1)) (ap (λ v. bit_xor (pair_bits v b) 0) (sym l) ∙ ap (λ m. bit_xor (pair_bits z b) m) (sym e) ∙ n)

  when_late : (0xF0 ≤ x) ⊎ (0xE0 ≤ y) → continuation_due x y ≡ 0x80 → MayFollowAll s w x y z b
  when_late p e =
      let late : is_late z (b / 16) ≡ true = eq-eqb _ _ (ap (λ n. bit_and (bit_xor n 0x80) 0xBF) (same_half z b) ∙ ap (λ n. bit_and (bit_xor (pair_bits z b) n) 0xBF) (sym e) ∙ right) in
      let first = late_first z b uz ub late in
      record {
        begins = λ s. absurd (⊎_elim (λ l. omega (arith, l, s.fourth)) (λ l. omega (arith, l, s.third)) p);
        continues = λ _. late_second z b uz ub late;
        follows = record { lead = λ s. absurd (omega (arith, s, first.1)); three_long = λ s. absurd (omega (arith, s, first.1)); four_long = λ s. absurd (omega (arith, s, first.1)); within = λ s. absurd (omega (arith, s, first.1)) };
        unpaired = λ i j k l. absurd (omega (arith, l, first.1));
        plain = λ f l. absurd (omega (arith, l, first.1));
      }

  may_follow_all : MayFollowAll s w x y z b
  may_follow_all = grind (arith, nat_tests, common_steps, when_late, is_later, when_early, later_is)

-- what holds of five numbers holds of equal ones
pub same_five : (P : ℕ → ℕ → ℕ → ℕ → ℕ → Type 0) {v w x y z a b c d e : ℕ} → v ≡ a → w ≡ b → x ≡ c → y ≡ d → z ≡ e → P v w x y z → P a b c d e
same_five P {v} {w} {x} {y} {z} {a} {b} {c} {d} {e} p q r s t h = grind (arith, nat_tests, common_steps)

-- what is wrong with each byte after the first four, if its bits are these
module _ (s : Encoding) (n : ℕ) (ws wrong : List ℕ) (fits : (k : ℕ) → get_or ws k 0 < 256)
    (bits : (i : ℕ) → i < n → get_or wrong i 0 ≡ error_bits (get_or ws (1 + i) 0) (get_or ws (2 + i) 0) (get_or ws (3 + i) 0) (get_or ws (4 + i) 0)) where
  pub kept : ((i : ℕ) → i < n → bit_and (get_or wrong i 0) 0xBF ≡ 0)
      → ((i : ℕ) → i < n → (get_or wrong i 0 ≡ 0) ⊎ (surrogate_pair_difference (get_or ws (0 + i) 0) (get_or ws (1 + i) 0) (get_or ws (3 + i) 0) (get_or ws (4 + i) 0) ≢ 0)) → (s ≡ Utf8 → (i : ℕ) → i < n → get_or wrong i 0 ≡ 0) → EachMayFollow s n ws
  kept right unpaired plain i h =
      same_five (λ a b c d e. MayFollowAll s (get_or ws a 0) (get_or ws b 0) (get_or ws c 0) (get_or ws d 0) (get_or ws e 0)) (omega arith) (omega arith) (omega arith) (omega arith) (omega arith)
      (may_follow_all s (get_or ws (0 + i) 0) _ _ _ _ (fits (1 + i)) (fits (2 + i)) (fits (3 + i)) (fits (4 + i)) (ap (λ n. bit_and n 0xBF) (sym (bits i h)) ∙ right i h)
      (⊎_elim (λ z. inl (sym (bits i h) ∙ z)) inr (unpaired i h)) (λ e. sym (bits i h) ∙ plain e i h))

  pub kept_by_zeros : ((i : ℕ) → i < n → get_or wrong i 0 ≡ 0) → EachMayFollow s n ws
  kept_by_zeros zeros = kept (λ i h. ap (λ n. bit_and n 0xBF) (zeros i h)) (λ i h. inl (zeros i h)) (λ _. zeros)

-- bytes stay bytes after zeros
pub zeros_fit : (bytes : List ℕ) → ((k : ℕ) → get_or bytes k 0 < 256) → (k : ℕ) → get_or (with_zeros_before bytes) k 0 < 256
zeros_fit bytes fits (suc (suc (suc (suc k)))) = fits k
zeros_fit bytes fits k = omega arith

-- what is wrong with each of 16 bytes, if vectors have it by those bytes and the three before each, up to the first lane that isn't 0
pub kept_of_16 : (ws wrong three two one byte : List ℕ) (n m : ℕ) → ((k : ℕ) → get_or ws k 0 < 256)
    → ((i : ℕ) → i < 16 → get_or wrong i 0 ≡ error_bits (get_or three i 0) (get_or two i 0) (get_or one i 0) (get_or byte i 0))
    → ((i : ℕ) → i < 16 → get_or three i 0 ≡ get_or ws (1 + i) 0) → ((i : ℕ) → i < 16 → get_or two i 0 ≡ get_or ws (2 + i) 0)
    → ((i : ℕ) → i < 16 → get_or one i 0 ≡ get_or ws (3 + i) 0) → ((i : ℕ) → i < 16 → get_or byte i 0 ≡ get_or ws (4 + i) 0)
    → n ≡ min m 16 → ((i : ℕ) → i < m → i < 16 → get_or wrong i 0 ≡ 0) → EachMayFollow Utf8 n ws
kept_of_16 ws wrong three two one byte n m fits bits at_three at_two at_one at_byte n_is clear =
    kept_by_zeros Utf8 n ws wrong fits
    (λ i h. let l : i < 16 = omega (arith, h, n_is) in rw (bits i l, at_three i l, at_two i l, at_one i l, at_byte i l) refl)
    (λ i h. clear i (omega (arith, h, n_is)) (omega (arith, h, n_is)))
