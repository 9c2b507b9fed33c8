-- What the tables say of neighbouring bytes.
use Rattle.os_quote.proofs.Common.{◌≡◌, ℕ, false, bit_and, not, eqb, ap, sym, ◌∙◌, and_zero_l, kind_bits, second_bits, third_bits, kind_bits_of_two, suspect_bits}
use Rattle.os_quote.specs.Hidden.{is_suspect}

-- the bits of bytes by what the tables have of each
pub pair_of : (x y lead second : ℕ) → lead ≡ kind_bits x → second ≡ second_bits y → bit_and lead second ≡ kind_bits_of_two x y
pair_of x y lead second e f = ap (λ b. bit_and b second) e ∙ ap (bit_and (kind_bits x)) f

pub suspect_of : (x y z pair third : ℕ) → pair ≡ kind_bits_of_two x y → third ≡ third_bits z → bit_and pair third ≡ suspect_bits x y z
suspect_of x y z pair third e f = ap (λ b. bit_and b third) e ∙ ap (bit_and (kind_bits_of_two x y)) f

-- where there are none the byte is no suspect
pub none_by_bits : (x y z : ℕ) → suspect_bits x y z ≡ 0 → is_suspect x y z ≡ false
unfolding is_suspect
none_by_bits x y z e = ap (λ b. not (eqb b 0)) e

-- nor where already the first two bytes say so
pub none_by_pair : (x y z : ℕ) → kind_bits_of_two x y ≡ 0 → is_suspect x y z ≡ false
none_by_pair x y z e = none_by_bits x y z (ap (λ b. bit_and b (third_bits z)) e ∙ and_zero_l (third_bits z))

-- or the first
pub none_by_lead : (x y z : ℕ) → kind_bits x ≡ 0 → is_suspect x y z ≡ false
none_by_lead x y z e = none_by_pair x y z (ap (λ b. bit_and b (second_bits y)) e ∙ and_zero_l (second_bits y))

-- nor where all three do: a, b and c are the bytes in vectors
pub none_by_three : {x y z a b c lead second third pair bits : ℕ} → a ≡ x → b ≡ y → c ≡ z → lead ≡ kind_bits a → second ≡ second_bits b → third ≡ third_bits c → pair ≡ bit_and lead second → bits ≡ bit_and pair third → bits ≡ 0 → is_suspect x y z ≡ false
none_by_three {x} {y} {z} p q r lead second third pair bits zero =
    none_by_bits x y z (sym (bits ∙ suspect_of x y z _ _ (pair ∙ pair_of x y _ _ (lead ∙ ap kind_bits p) (second ∙ ap second_bits q)) (third ∙ ap third_bits r)) ∙ zero)
