-- Digits between braces.
use Rattle.os_quote.proofs.Common.{common_steps, nat_tests, ◌≡◌, ◌≢◌, ⊎_elim, ℕ, ◌+◌, ◌*◌, ◌/◌, ◌%◌, ◌<◌, ◌≤◌, List, [], ◌∷◌, ◌++◌, sym, ap, ◌∙◌, arith, OutOfScalarRange, IsInRange, cases_lt, upper_hex_digit, byte_digits, wide_digits, long_digits, IsLong, HasNoWide, HasNoLong, HasNoClosed, HasNoFive, IsClosed, IsFive}
use Rattle.os_quote.proofs.lemmas.Items.{tails, digit_same, wide_same, five_digits, six_digits}

-- a code point past FFFF has five digits or six
pub no_long : (bytes digits : List ℕ) → bytes ≡ 0x7B ∷ digits → HasNoClosed (0x31 ∷ 0x30 ∷ []) digits → HasNoFive digits → HasNoLong bytes
no_long bytes digits is six five c h after e =
    let t : digits ≡ long_digits c ++ 0x7D ∷ after = (tails (sym is ∙ e)).1 in
    ⊎_elim
    (λ l. five (c / 0x1_0000) (omega arith) (omega arith) (c % 0x1_0000) (omega arith) after (t ∙ ap (λ x. x ++ 0x7D ∷ after) (five_digits c l)))
    (λ l.
    let ten : c / 0x1_0000 ≡ 0x10 = omega arith in
    six (c % 0x1_0000) (omega arith) after (t ∙ ap (λ x. x ++ 0x7D ∷ after) (six_digits c l ∙ ap (λ n. byte_digits n ++ wide_digits (c % 0x1_0000)) ten)))
    (cases_lt c 0x10_0000)

pub long_of_six : (bytes digits : List ℕ) (c : ℕ) (rest : List ℕ) → bytes ≡ 0x7B ∷ digits → IsClosed (0x31 ∷ 0x30 ∷ []) 0x10 digits c rest → IsLong c × (bytes ≡ 0x7B ∷ (long_digits c ++ 0x7D ∷ rest))
long_of_six bytes digits c rest is k = grind (arith, nat_tests, common_steps, six_digits, byte_digits, wide_digits)

pub long_of_five : (bytes digits : List ℕ) (c : ℕ) (rest : List ℕ) → bytes ≡ 0x7B ∷ digits → IsFive digits c rest → IsLong c × (bytes ≡ 0x7B ∷ (long_digits c ++ 0x7D ∷ rest))
long_of_five bytes digits c rest is k = grind (arith, five_digits)

-- no five digits and a brace are there, since the last four or the brace are missing, or the first is no digit or is 0
pub not_closed : (digits low : List ℕ) (first : ℕ) → digits ≡ first ∷ low → HasNoClosed [] low → HasNoFive digits
not_closed digits low first is none h some within u fits after e = none u fits after (tails (sym is ∙ e)).1

pub zero_first : (digits low : List ℕ) (first d : ℕ) → digits ≡ first ∷ low → upper_hex_digit d ≡ first → d ≡ 0 → HasNoFive digits
zero_first digits low first d is same z h some within u fits after e = grind (arith, digit_same, tails)

pub no_first : (digits low : List ℕ) (first : ℕ) → digits ≡ first ∷ low → ((d : ℕ) → d < 16 → upper_hex_digit d ≢ first) → HasNoFive digits
no_first digits low first is none h some within u fits after e = none h within (sym (tails (sym is ∙ e)).0)

pub no_bytes : (digits : List ℕ) → digits ≡ [] → HasNoFive digits
no_bytes digits n h some within u fits after e = let f = sym n ∙ e in cc

-- these five digits and a brace are there
pub five_closed : (digits low : List ℕ) (first high c : ℕ) (rest : List ℕ) → digits ≡ first ∷ low → upper_hex_digit high ≡ first → high < 16 → 0 < high → IsClosed [] high low c rest → IsFive digits c rest
five_closed digits low first high c rest is same within some k = grind (arith, upper_hex_digit)

-- no four digits, or no brace after them
pub no_closed_digits : (bytes : List ℕ) → HasNoWide bytes → HasNoClosed [] bytes
no_closed_digits bytes none u h after e = none u h (0x7D ∷ after) e

pub no_closing : (bytes following : List ℕ) (number : ℕ) → bytes ≡ wide_digits number ++ following → ((after : List ℕ) → following ≢ 0x7D ∷ after) → HasNoClosed [] bytes
no_closing bytes following number is none u h after e = none after (wide_same number u following (0x7D ∷ after) (sym is ∙ e)).1

-- the number that these digits say
pub closed : (bytes following rest : List ℕ) (high number code : ℕ) → number < 0x1_0000 → bytes ≡ wide_digits number ++ following → following ≡ 0x7D ∷ rest → code ≡ high * 0x1_0000 + number → IsClosed [] high bytes code rest
closed bytes following rest high number code fits is brace e = grind (arith, wide_digits)

-- that number is a character's
pub is_scalar : {T : Type 0} (high number code : ℕ) → 0 < high → high ≤ 0x10 → number < 0x1_0000 → code ≡ high * 0x1_0000 + number → OutOfScalarRange code → T
is_scalar high number code some within fits e out = absurd (⊎_elim (λ (r : IsInRange 0xD800 0xDFFF code). let a = r.0 in let b = r.1 in omega arith) (λ (r : 0x11_0000 ≤ code). omega arith) out)

pub ruleset closed_tokens = (closed, is_scalar)

pub ruleset five_tokens = (no_bytes, no_first, zero_first, not_closed, five_closed)
