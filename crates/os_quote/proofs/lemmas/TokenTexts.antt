-- The texts of tokens, byte by byte.
use Rattle.os_quote.proofs.Common.{◌≡◌, Bool, Item, IsItem, ℕ, ◌/◌, ◌%◌, ◌<◌, ◌≤◌, List, [], ◌∷◌, ◌++◌, sym, ap, ◌∙◌, subst, arith, upper_hex_digit, IsUtf8, ByteUnit, WideUnit, LongCharacter, backslash, byte_digits, wide_digits, item_text}
use Rattle.os_quote.proofs.lemmas.{Items.five_digits, Items.six_digits, Readings.item_is_text}

pub two_digits : (u a b : ℕ) → a ≡ upper_hex_digit (u / 16) → b ≡ upper_hex_digit (u % 16) → a ∷ b ∷ [] ≡ byte_digits u
two_digits u a b p q = ap (λ x. x ∷ b ∷ []) p ∙ ap (λ x. upper_hex_digit (u / 16) ∷ x ∷ []) q

pub byte_text : (u a b : ℕ) → a ≡ upper_hex_digit (u / 16) → b ≡ upper_hex_digit (u % 16) → backslash ∷ 0x78 ∷ a ∷ b ∷ [] ≡ item_text (ByteUnit u)
byte_text u a b p q = ap (λ x. backslash ∷ 0x78 ∷ x) (two_digits u a b p q)

-- four digits of a number of 16 bits
module _ (u a b c d : ℕ) (p : a ≡ upper_hex_digit (u / 0x100 / 16)) (q : b ≡ upper_hex_digit (u / 0x100 % 16)) (r : c ≡ upper_hex_digit (u % 0x100 / 16)) (s : d ≡ upper_hex_digit (u % 0x100 % 16)) where
  pub four_digits : a ∷ b ∷ c ∷ d ∷ [] ≡ wide_digits u
  four_digits = ap (λ x. x ++ (c ∷ d ∷ [])) (two_digits (u / 0x100) a b p q) ∙ ap (λ x. byte_digits (u / 0x100) ++ x) (two_digits (u % 0x100) c d r s)

  pub wide_text : backslash ∷ 0x75 ∷ a ∷ b ∷ c ∷ d ∷ [] ≡ item_text (WideUnit u)
  wide_text = ap (λ x. backslash ∷ 0x75 ∷ x) four_digits

-- five of a greater one, and six
pub five_text : (n first a b c d : ℕ) → n < 0x10_0000 → first ≡ upper_hex_digit (n / 0x1_0000 % 16) → a ∷ b ∷ c ∷ d ∷ [] ≡ wide_digits (n % 0x1_0000) → backslash ∷ 0x75 ∷ 0x7B ∷ first ∷ a ∷ b ∷ c ∷ d ∷ 0x7D ∷ [] ≡ item_text (LongCharacter n)
five_text n first a b c d below f e =
    let one : n / 0x1_0000 % 16 ≡ n / 0x1_0000 = omega (arith, below) in
    ap (λ x. backslash ∷ 0x75 ∷ 0x7B ∷ x ∷ a ∷ b ∷ c ∷ d ∷ 0x7D ∷ []) (f ∙ ap upper_hex_digit one)
    ∙ ap (λ x. backslash ∷ 0x75 ∷ 0x7B ∷ upper_hex_digit (n / 0x1_0000) ∷ (x ++ 0x7D ∷ [])) e
    ∙ ap (λ x. backslash ∷ 0x75 ∷ 0x7B ∷ (x ++ 0x7D ∷ [])) (sym (five_digits n below))

pub six_text : (n a b c d : ℕ) → 0x10_0000 ≤ n → n < 0x11_0000 → a ∷ b ∷ c ∷ d ∷ [] ≡ wide_digits (n % 0x1_0000) → backslash ∷ 0x75 ∷ 0x7B ∷ 0x31 ∷ 0x30 ∷ a ∷ b ∷ c ∷ d ∷ 0x7D ∷ [] ≡ item_text (LongCharacter n)
six_text n a b c d past below e =
    let ten : 0x10 ≡ n / 0x1_0000 = omega (arith, past, below) in
    ap (λ x. backslash ∷ 0x75 ∷ 0x7B ∷ 0x31 ∷ 0x30 ∷ (x ++ 0x7D ∷ [])) e
    ∙ ap (λ k. backslash ∷ 0x75 ∷ 0x7B ∷ ((byte_digits k ++ wide_digits (n % 0x1_0000)) ++ 0x7D ∷ [])) ten
    ∙ ap (λ x. backslash ∷ 0x75 ∷ 0x7B ∷ (x ++ 0x7D ∷ [])) (sym (six_digits n past))

-- each is UTF-8
pub token_is_text : {t : List ℕ} (shows : ℕ → Bool) (i : Item) → IsItem shows i → t ≡ item_text i → IsUtf8 t
token_is_text shows i h e = subst IsUtf8 (sym e) (item_is_text shows i h)
