-- Forms and shapes: the arithmetic.
use Rattle.wtf8_core.proofs.Common.{◌≡◌, ◌≢◌, ◌⊎◌, ℕ, ◌+◌, ◌/◌, ◌%◌, ◌<◌, ◌≤◌, List, [], ◌∷◌, length, drop, get_or, ap, arith, nat_tests, AllByRecursion, IsByte, IsContinuation, needed_continuations, IsCodePoint, encode, IsSurrogate, IsWholeSequence, sequence_value, least_value}

-- the form of an ASCII code point is one byte
pub form_ascii : (c : ℕ) → c < 0x80 → encode c ≡ c ∷ []
unfolding encode
form_ascii c h = grind (arith, nat_tests)

-- of one below 800 two, and below 10000 three
pub form_two : (c : ℕ) → 0x80 ≤ c → c < 0x800 → encode c ≡ (0xC0 + c / 0x40) ∷ (0x80 + c % 0x40) ∷ []
unfolding encode
form_two c h l = grind (arith, nat_tests)

pub form_three : (c : ℕ) → 0x800 ≤ c → c < 0x1_0000 → encode c ≡ (0xE0 + c / 0x1000) ∷ (0x80 + (c / 0x40) % 0x40) ∷ (0x80 + c % 0x40) ∷ []
unfolding encode
form_three c h l = grind (arith, nat_tests)

-- of a surrogate three
pub form_surrogate : (c : ℕ) → IsSurrogate c → encode c ≡ (0xE0 + c / 0x1000) ∷ (0x80 + (c / 0x40) % 0x40) ∷ (0x80 + c % 0x40) ∷ []
form_surrogate c h = form_three c (omega (arith, h.0)) (omega (arith, h.1))

pub length-form_surrogate : (c : ℕ) → IsSurrogate c → length (encode c) ≡ 3
length-form_surrogate c h = ap length (form_surrogate c h)

-- of a code point past FFFF four
pub form_past : (c : ℕ) → 0x1_0000 ≤ c → encode c ≡ (0xF0 + c / 0x4_0000) ∷ (0x80 + (c / 0x1000) % 0x40) ∷ (0x80 + (c / 0x40) % 0x40) ∷ (0x80 + c % 0x40) ∷ []
unfolding encode
form_past c h = grind (arith, nat_tests)

-- a form has one to four bytes
pub form_bounds : (c : ℕ) → (1 ≤ length (encode c)) × (length (encode c) ≤ 4)
unfolding encode
form_bounds c = grind (arith, nat_tests)

pub form_bytes : (c : ℕ) → IsCodePoint c → AllByRecursion IsByte (encode c)
unfolding encode
form_bytes c h = grind (arith, nat_tests)

-- a byte that is no continuation, and then continuations
pub record FormParts (c : ℕ) : Type 0 where
  pub lead : ℕ
  pub after : List ℕ
  pub is : encode c ≡ lead ∷ after
  pub begins : IsContinuation lead → ⊥
  pub continued : AllByRecursion IsContinuation after

-- each form is one
pub form_parts : (c : ℕ) → FormParts c
unfolding encode
form_parts c = record { lead = get_or (encode c) 0 0; after = drop 1 (encode c); is = grind (arith, nat_tests); begins = λ h. grind (arith, nat_tests, h); continued = grind (arith, nat_tests) }

-- a form of two bytes or more is a shape, of its code point
pub long_shape : (c lead : ℕ) (after : List ℕ) → encode c ≡ lead ∷ after → 0x80 ≤ c → IsCodePoint c → IsWholeSequence lead after
unfolding encode
long_shape c lead after e l h = record { begun = record { lead_is = grind (arith, nat_tests, e); continued = grind (arith, nat_tests, e) }; whole = grind (arith, nat_tests, e) }

pub long_value : (c lead : ℕ) (after : List ℕ) → encode c ≡ lead ∷ after → 0x80 ≤ c → IsCodePoint c → (sequence_value lead after ≡ c) × (least_value (needed_continuations lead) ≤ c)
unfolding encode
long_value c lead after e l h = (grind (arith, nat_tests, e), grind (arith, nat_tests, e))

-- a shape of at least the least value is the form of its value
pub shape_is_form : (b : ℕ) (ks : List ℕ) → IsWholeSequence b ks → least_value (needed_continuations b) ≤ sequence_value b ks → encode (sequence_value b ks) ≡ b ∷ ks
unfolding encode
shape_is_form b [] s m = grind (arith, nat_tests, s.whole)
shape_is_form b (x ∷ y ∷ z ∷ w ∷ ks) s m = grind (arith, nat_tests, s.whole)
shape_is_form b ks s m = grind (arith, nat_tests, s.whole, s.begun.lead_is, s.begun.continued)

-- no form is a shape of less than the least value, or past the last code point
pub no_form : (b : ℕ) (ks : List ℕ) → IsWholeSequence b ks → (sequence_value b ks < least_value (needed_continuations b)) ⊎ (0x10_FFFF < sequence_value b ks)
    → (c : ℕ) → IsCodePoint c → encode c ≢ b ∷ ks
unfolding encode
no_form b [] s w c p e = grind (arith, nat_tests, s.whole)
no_form b (x ∷ y ∷ z ∷ u ∷ ks) s w c p e = grind (arith, nat_tests, s.whole)
no_form b ks s w c p e = grind (arith, nat_tests, s.whole, s.begun.lead_is, s.begun.continued, w, p, e)
