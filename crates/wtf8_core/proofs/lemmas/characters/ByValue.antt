-- The character with which four bytes begin, by the code point that their bits are.
use Rattle.wtf8_core.proofs.Common.{◌≡◌, ◌⊎◌, ⊎_elim, ℕ, ◌+◌, ◌<◌, ◌≤◌, List, ◌∷◌, length, arith, refl, nat_tests, IsScalar, IsContinuation, IsFirstChar, StartsWithNoCharacter, ◌*◌, ◌%◌}
use Rattle.wtf8_core.proofs.lemmas.{characters.AtIndices.none_at, characters.FourBytes.IsSequenceStart, characters.FourBytes.begun, characters.FourBytes.second_of_two, characters.FourBytes.two_long, characters.FourBytes.three_long, characters.FourBytes.four_long, forms.Ranges.in_range, texts.StdFaults.First, texts.StdFaults.Second}

-- what follows a lead is a continuation
continues : (b x : ℕ) → First b → Second b x → IsContinuation x
continues b x f s = grind (arith, nat_tests, s)

-- the bits of three bytes and of four, which tell whether the second may follow the lead
abbrev pub value_of_three : ℕ → ℕ → ℕ → ℕ
value_of_three b x y = b % 0x10 * 0x1000 + x % 0x40 * 0x40 + y % 0x40

pub second_of_three : (b x y : ℕ) → 0xE0 ≤ b → b < 0xF0 → IsContinuation x → 0x800 ≤ value_of_three b x y → IsScalar (value_of_three b x y) → Second b x
second_of_three b x y h l k least s = grind (arith, nat_tests, k, s)

least_of_three : (b x y : ℕ) → 0xE0 ≤ b → b < 0xF0 → Second b x → 0x800 ≤ value_of_three b x y
least_of_three b x y h l s = grind (arith, nat_tests, s)

abbrev pub value_of_four : ℕ → ℕ → ℕ → ℕ → ℕ
value_of_four b x y z = b % 0x10 * 0x4_0000 + x % 0x40 * 0x1000 + y % 0x40 * 0x40 + z % 0x40

pub second_of_four : (b x y z : ℕ) → 0xF0 ≤ b → b ≤ 0xF4 → IsContinuation x → 0x1_0000 ≤ value_of_four b x y z → IsScalar (value_of_four b x y z) → Second b x
second_of_four b x y z h l k least s = grind (arith, nat_tests, k, s)

least_of_four : (b x y z : ℕ) → 0xF0 ≤ b → b ≤ 0xF4 → Second b x → 0x1_0000 ≤ value_of_four b x y z
least_of_four b x y z h l s = grind (arith, nat_tests, s)

module _ (b x y z : ℕ) (rest : List ℕ) (high : 0x80 ≤ b) where
  abbrev Four : List ℕ
  Four = b ∷ x ∷ y ∷ z ∷ rest

  long : 4 ≤ length Four
  long = omega arith

  -- no character begins with what is no start of one
  none : (IsSequenceStart Four long high → ⊥) → StartsWithNoCharacter Four
  none n = none_at Four 0 (λ c t s e. n (begun Four long high c t s e))

  pub none_by_lead : (First b → ⊥) → StartsWithNoCharacter Four
  none_by_lead n = none (λ w. n w.first)

  pub none_of_two : (IsContinuation x → ⊥) → StartsWithNoCharacter Four
  none_of_two n = none (λ w. n (continues b x w.first w.second))

  pub none_of_three : 0xE0 ≤ b → (IsContinuation x → ⊥) ⊎ (IsContinuation y → ⊥) → StartsWithNoCharacter Four
  none_of_three h n = none (λ w. ⊎_elim (λ n. n (continues b x w.first w.second)) (λ n. n (w.third h)) n)

  pub none_of_four : 0xF0 ≤ b → (IsContinuation x → ⊥) ⊎ ((IsContinuation y → ⊥) ⊎ (IsContinuation z → ⊥)) → StartsWithNoCharacter Four
  none_of_four h n = none (λ w. ⊎_elim (λ n. n (continues b x w.first w.second)) (⊎_elim (λ n. n (w.third (omega arith))) (λ n. n (w.fourth h))) n)

  -- with continuations they are the character with these bits
  pub char_of_two : (v : ℕ) → First b → b < 0xE0 → IsContinuation x → v ≡ b % 0x20 * 0x40 + x % 0x40 → IsScalar v × IsFirstChar Four v 2
  char_of_two v f l k is = two_long Four long high (in_range 0xC2 0xF4 b f) (second_of_two b x l k) v l is

  pub char_of_three : (v : ℕ) → 0xE0 ≤ b → b < 0xF0 → Second b x → IsContinuation y → v ≡ value_of_three b x y → IsScalar v × IsFirstChar Four v 3
  char_of_three v h l s k is = three_long Four long high (in_range 0xC2 0xF4 b (omega arith, omega arith)) (in_range _ _ x s) v h l k is

  pub char_of_four : (v : ℕ) → 0xF0 ≤ b → b ≤ 0xF4 → Second b x → IsContinuation y → IsContinuation z → v ≡ value_of_four b x y z → IsScalar v × IsFirstChar Four v 4
  char_of_four v h l s k j is = four_long Four long high (in_range 0xC2 0xF4 b (omega arith, omega arith)) (in_range _ _ x s) v h k j is

  -- bits that are too few for so many bytes, or no scalar's, begin none
  pub none_by_three : 0xE0 ≤ b → b < 0xF0 → (0x800 ≤ value_of_three b x y → IsScalar (value_of_three b x y) → ⊥) → StartsWithNoCharacter Four
  none_by_three h l n = none (λ w. n (least_of_three b x y h l w.second) (char_of_three _ h l w.second (w.third h) refl).0)

  pub none_by_four : 0xF0 ≤ b → b ≤ 0xF4 → (0x1_0000 ≤ value_of_four b x y z → IsScalar (value_of_four b x y z) → ⊥) → StartsWithNoCharacter Four
  none_by_four h l n = none (λ w. n (least_of_four b x y z h l w.second) (char_of_four _ h l w.second (w.third (omega arith)) (w.fourth h) refl).0)
