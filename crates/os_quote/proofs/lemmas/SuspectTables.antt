-- The tables have each character that is hidden, and the backslash.
use Rattle.os_quote.proofs.Common.{◌≡◌, ⊎_elim, ℕ, suc, ◌+◌, ◌-◌, ◌/◌, ◌%◌, ◌<◌, ◌≤◌, Bool, true, false, ◌&&◌, List, [], ◌∷◌, not, eqb, ltb, bit_and, refl, sym, ap, ◌∙◌, subst, arith, true≢false, is_in_range, cases_lt, lt-ltb, le-ltb, all_below, each_below, hidden_ranges, is_in_ranges, IsUnchanged, stays_on_line, kind_bits, second_bits, third_bits, kind_bits_of_two, suspect_bits}
use Rattle.std.specs.{Bool.if◌then◌else◌, Int.Bits.and_zero_l}
use Rattle.std.proofs.lemmas.{Bool.and_parts, Bool.cases_Bool, Bool.or_cases, Bool.eqb-true, Bool.not-false, Nat.and_assoc}
use Rattle.wtf8_core.proofs.lemmas.forms.Ranges.{in_range-true}
use Rattle.os_quote.specs.Hidden.{is_suspect}

abbrev is_some : ℕ → Bool
is_some bits = not (eqb bits 0)

-- the kinds of characters of which any byte may be the second, and any the third: those of ASCII; and any the third: those of two bytes too
abbrev ascii : ℕ
ascii = 7

abbrev short : ℕ
short = 0x37

-- whether the tables have a character of one to four bytes, whatever follows it
abbrev has_one : ℕ → Bool
has_one c = is_some (bit_and (kind_bits c) ascii)

abbrev has_two : ℕ → Bool
has_two c = is_some (bit_and (kind_bits_of_two (0xC0 + c / 0x40) (0x80 + c % 0x40)) short)

abbrev has_three : ℕ → Bool
has_three c = is_some (suspect_bits (0xE0 + c / 0x1000) (0x80 + (c / 0x40) % 0x40) (0x80 + c % 0x40))

abbrev has_four : ℕ → Bool
has_four c = is_some (suspect_bits (0xF0 + c / 0x4_0000) (0x80 + (c / 0x1000) % 0x40) (0x80 + (c / 0x40) % 0x40))

abbrev has : ℕ → Bool
has c = if ltb c 0x80 then has_one c else (if ltb c 0x800 then has_two c else (if ltb c 0x1_0000 then has_three c else (if ltb c 0x4_0000 then has_four c else true)))

-- all characters of a range, and of ranges; of those from 4_0000 on the tables have the first byte
abbrev has_range : ℕ × ℕ → Bool
has_range r = if ltb r.0 0x4_0000 then all_below (λ k. has (r.0 + k)) (suc r.1 - r.0) else true

abbrev has_ranges : List (ℕ × ℕ) → Bool
has_ranges [] = true
has_ranges (r ∷ rs) = has_range r && has_ranges rs

in_range_has : (r : ℕ × ℕ) (c : ℕ) → has_range r ≡ true → is_in_range r.0 r.1 c ≡ true → has c ≡ true
in_range_has r c e t =
    let i = in_range-true r.0 r.1 c t in
    let same : r.0 + (c - r.0) ≡ c = omega (arith, i.0) in
    ⊎_elim
    (λ low. subst (λ x. has x ≡ true) same (each_below (λ k. has (r.0 + k)) (suc r.1 - r.0) (c - r.0) (rw (lt-ltb r.0 0x4_0000 low) at e) (omega (arith, i.0, i.1))))
    (λ past. rw (le-ltb c 0x80 (omega (arith, i.0, past)), le-ltb c 0x800 (omega (arith, i.0, past)), le-ltb c 0x1_0000 (omega (arith, i.0, past)), le-ltb c 0x4_0000 (omega (arith, i.0, past))) refl)
    (cases_lt r.0 0x4_0000)

in_ranges_has : (rs : List (ℕ × ℕ)) (c : ℕ) → has_ranges rs ≡ true → is_in_ranges rs c ≡ true → has c ≡ true
in_ranges_has [] c e t = absurd (true≢false (sym t))
in_ranges_has (r ∷ rs) c e t =
    let both = and_parts (has_range r) (has_ranges rs) e in
    ⊎_elim (λ first. in_range_has r c both.0 first) (λ later. in_ranges_has rs c both.1 later) (or_cases (is_in_range r.0 r.1 c) (is_in_ranges rs c) t)

-- one computation over the definition's ranges
has_hidden : has_ranges hidden_ranges ≡ true
has_hidden = refl

-- a character that the tables don't have is unchanged
is_unchanged : (c : ℕ) → has c ≡ false → IsUnchanged stays_on_line c
is_unchanged c none = (λ e. true≢false (sym (ap has e) ∙ none), ap not (⊎_elim (λ t. absurd (true≢false (sym (in_ranges_has hidden_ranges c has_hidden t) ∙ none))) (λ f. f) (cases_Bool (is_in_ranges hidden_ranges c))))

-- whether a table has all of these bits for every byte
abbrev has_all : (ℕ → ℕ) → ℕ → ℕ → Bool
has_all bits mask b = eqb (bit_and (bits b) mask) mask

all_of : (bits : ℕ → ℕ) (mask b : ℕ) → all_below (has_all bits mask) 256 ≡ true → b < 256 → bit_and (bits b) mask ≡ mask
all_of bits mask b e h = eqb-true _ _ (each_below (has_all bits mask) 256 b e h)

-- bits of which another has all are none where the other has none of them
none_of_all : (p t mask : ℕ) → bit_and t mask ≡ mask → bit_and p t ≡ 0 → bit_and p mask ≡ 0
none_of_all p t mask all none = ap (bit_and p) (sym all) ∙ sym (and_assoc mask p t) ∙ ap (λ b. bit_and b mask) none ∙ and_zero_l mask

no_bits : (x y z : ℕ) → is_suspect x y z ≡ false → suspect_bits x y z ≡ 0
unfolding is_suspect
no_bits x y z e = eqb-true _ _ (not-false _ e)

-- a byte that is no suspect is of no kind of which any bytes may be the second and the third
no_ascii_kind : (x y z : ℕ) → y < 256 → z < 256 → is_suspect x y z ≡ false → bit_and (kind_bits x) ascii ≡ 0
no_ascii_kind x y z v w s =
    let pair = none_of_all (kind_bits_of_two x y) (third_bits z) ascii (all_of third_bits ascii z refl w) (no_bits x y z s) in
    ap (bit_and (kind_bits x)) (sym (all_of second_bits ascii y refl v)) ∙ sym (and_assoc ascii (kind_bits x) (second_bits y)) ∙ pair

-- a character is unchanged where its first byte is no suspect
pub one_occurs : (c y z : ℕ) → c < 0x80 → y < 256 → z < 256 → is_suspect c y z ≡ false → IsUnchanged stays_on_line c
one_occurs c y z a v w s =
    is_unchanged c (rw (lt-ltb c 0x80 a) (ap is_some (no_ascii_kind c y z v w s)))

pub two_occurs : (c z : ℕ) → 0x80 ≤ c → c < 0x800 → z < 256 → is_suspect (0xC0 + c / 0x40) (0x80 + c % 0x40) z ≡ false → IsUnchanged stays_on_line c
two_occurs c z l a w s =
    let pair = none_of_all (kind_bits_of_two (0xC0 + c / 0x40) (0x80 + c % 0x40)) (third_bits z) short (all_of third_bits short z refl w) (no_bits (0xC0 + c / 0x40) (0x80 + c % 0x40) z s) in
    is_unchanged c (rw (le-ltb c 0x80 l, lt-ltb c 0x800 a) (ap is_some pair))

pub three_occurs : (c : ℕ) → 0x800 ≤ c → c < 0x1_0000 → is_suspect (0xE0 + c / 0x1000) (0x80 + (c / 0x40) % 0x40) (0x80 + c % 0x40) ≡ false → IsUnchanged stays_on_line c
unfolding is_suspect
three_occurs c l a s =
    is_unchanged c (rw (le-ltb c 0x80 (omega (arith, l)), le-ltb c 0x800 l, lt-ltb c 0x1_0000 a) s)

four_occurs_low : (c : ℕ) → 0x1_0000 ≤ c → c < 0x4_0000 → is_suspect (0xF0 + c / 0x4_0000) (0x80 + (c / 0x1000) % 0x40) (0x80 + (c / 0x40) % 0x40) ≡ false → IsUnchanged stays_on_line c
unfolding is_suspect
four_occurs_low c l a s =
    is_unchanged c (rw (le-ltb c 0x80 (omega (arith, l)), le-ltb c 0x800 (omega (arith, l)), le-ltb c 0x1_0000 l, lt-ltb c 0x4_0000 a) s)

-- each first byte from F1 to F4 is a suspect
past_leads : all_below (λ k. is_some (bit_and (kind_bits (0xF1 + k)) ascii)) 4 ≡ true
past_leads = refl

never_past : (c y z : ℕ) → 0x4_0000 ≤ c → c < 0x11_0000 → y < 256 → z < 256 → is_suspect (0xF0 + c / 0x4_0000) y z ≡ false → ⊥
never_past c y z l a v w s =
    let lead : 0xF1 + (c / 0x4_0000 - 1) ≡ 0xF0 + c / 0x4_0000 = omega (arith, l) in
    let kind = subst (λ x. is_some (bit_and (kind_bits x) ascii) ≡ true) lead (each_below (λ k. is_some (bit_and (kind_bits (0xF1 + k)) ascii)) 4 (c / 0x4_0000 - 1) past_leads (omega (arith, l, a))) in
    true≢false (sym kind ∙ ap is_some (no_ascii_kind (0xF0 + c / 0x4_0000) y z v w s))

pub four_occurs : (c : ℕ) → 0x1_0000 ≤ c → c < 0x11_0000 → is_suspect (0xF0 + c / 0x4_0000) (0x80 + (c / 0x1000) % 0x40) (0x80 + (c / 0x40) % 0x40) ≡ false → IsUnchanged stays_on_line c
four_occurs c l a s =
    ⊎_elim (λ low. four_occurs_low c l low s)
    (λ past. absurd (never_past c (0x80 + (c / 0x1000) % 0x40) (0x80 + (c / 0x40) % 0x40) past a (omega arith) (omega arith) s))
    (cases_lt c 0x4_0000)

-- no byte that goes on in a character is one
pub lead_from : (x y z : ℕ) → is_suspect x y z ≡ true → 128 ≤ x → 192 ≤ x
unfolding is_suspect
lead_from x y z e h =
    ⊎_elim
    (λ l.
    let same : 128 + (x - 128) ≡ x = omega (arith, h) in
    let lead = subst (λ b. kind_bits b ≡ 0) same (eqb-true _ _ (each_below (λ k. eqb (kind_bits (128 + k)) 0) 64 (x - 128) refl (omega (arith, h, l)))) in
    absurd (true≢false (sym e ∙ ap (λ b. is_some (bit_and (bit_and b (second_bits y)) (third_bits z))) lead ∙ ap is_some (ap (λ b. bit_and b (third_bits z)) (and_zero_l (second_bits y)) ∙ and_zero_l (third_bits z)))))
    (λ g. g)
    (cases_lt x 192)
