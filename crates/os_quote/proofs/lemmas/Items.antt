-- Items and their texts, one to one: a text is read in one way.
use Rattle.os_quote.proofs.Common.{common_steps, nat_tests, ◌≡◌, ◌≢◌, ◌⊎◌, inl, inr, ⊎_elim, ℕ, ◌+◌, ◌/◌, ◌%◌, ◌<◌, ◌≤◌, Bool, List, [], ◌∷◌, ◌++◌, length, refl, sym, ap, ◌∙◌, arith, append_assoc, length-append, encode_utf8, AllByRecursion, lt-ltb, le-ltb, cases_lt, encode_same, encode_ascii, length-encode, len_utf8_bounds, upper_hex_digit, Item, Character, Backslash, ByteUnit, WideUnit, LongCharacter, backslash, byte_digits, wide_digits, long_digits, item_text, item_texts, IsItem, BeginsNoToken}

-- the digits below 10 and from 10 on
pub digit_low : (d : ℕ) → d < 10 → upper_hex_digit d ≡ 48 + d
digit_low d h = rw (lt-ltb d 10 h) refl

pub digit_high : (d : ℕ) → 10 ≤ d → upper_hex_digit d ≡ 55 + d
digit_high d h = rw (le-ltb d 10 h) refl

digit_cases : (d : ℕ) → ((d < 10) × (upper_hex_digit d ≡ 48 + d)) ⊎ ((10 ≤ d) × (upper_hex_digit d ≡ 55 + d))
digit_cases d = ⊎_elim (λ h. inl (h, digit_low d h)) (λ h. inr (h, digit_high d h)) (cases_lt d 10)

-- a digit has one value
pub digit_same : (d e : ℕ) → upper_hex_digit d ≡ upper_hex_digit e → d ≡ e
digit_same d e h = grind (arith, upper_hex_digit, digit_cases)

pub tails : {a b : ℕ} {x y : List ℕ} → a ∷ x ≡ b ∷ y → (a ≡ b) × (x ≡ y)
tails {a} {b} {x} {y} e = (cc, cc)

-- two digits have one value
pub byte_same : (a b : ℕ) (x y : List ℕ) → byte_digits a ++ x ≡ byte_digits b ++ y → (a ≡ b) × (x ≡ y)
byte_same a b x y e = grind (arith, tails, digit_same)

-- four digits have one value
pub wide_same : (u v : ℕ) (x y : List ℕ) → wide_digits u ++ x ≡ wide_digits v ++ y → (u ≡ v) × (x ≡ y)
wide_same u v x y e = grind (arith, nat_tests, common_steps, byte_same, byte_digits)

-- no digit is a brace
pub no_brace : (d : ℕ) → d < 16 → upper_hex_digit d < 0x7B
no_brace d h = ⊎_elim (λ l. omega (arith, digit_low d l)) (λ l. omega (arith, digit_high d l)) (cases_lt d 10)

-- five digits below 10_0000, six from there on
pub five_digits : (c : ℕ) → c < 0x10_0000 → long_digits c ≡ upper_hex_digit (c / 0x1_0000) ∷ wide_digits (c % 0x1_0000)
five_digits c h = rw (lt-ltb (c / 0x1_0000) 0x10 (omega arith)) refl

pub six_digits : (c : ℕ) → 0x10_0000 ≤ c → long_digits c ≡ byte_digits (c / 0x1_0000) ++ wide_digits (c % 0x1_0000)
six_digits c h = rw (le-ltb (c / 0x1_0000) 0x10 (omega arith)) refl

-- five digits and a brace aren't six
five_or_six : (b c : ℕ) (x y : List ℕ) → (upper_hex_digit (b / 0x1_0000) ∷ wide_digits (b % 0x1_0000)) ++ 0x7D ∷ x ≡ (byte_digits (c / 0x1_0000) ++ wide_digits (c % 0x1_0000)) ++ 0x7D ∷ y → ⊥
five_or_six b c x y e = grind (arith, tails, no_brace)

-- the digits of a code point past FFFF have one value
pub long_same : (b c : ℕ) (x y : List ℕ) → long_digits b ++ 0x7D ∷ x ≡ long_digits c ++ 0x7D ∷ y → (b ≡ c) × (x ≡ y)
long_same b c x y e = grind (arith, tails, five_digits, wide_same, digit_same, five_or_six, six_digits, byte_same, wide_digits)

-- a character that is no backslash doesn't begin as a token does
no_slash : (c : ℕ) (x y : List ℕ) → c ≢ backslash → encode_utf8 c ++ x ≡ backslash ∷ y → ⊥
no_slash c x y n e = n (encode_same c backslash x y (e ∙ ap (λ l. l ++ y) (sym (encode_ascii backslash (omega arith))))).0

-- four digits don't begin as a long token does
wide_or_long : (u : ℕ) (x y : List ℕ) → u < 0x1_0000 → item_text (WideUnit u) ++ x ≡ backslash ∷ 0x75 ∷ 0x7B ∷ y → ⊥
wide_or_long u x y h e = grind (arith, tails, no_brace)

module _ (shows : ℕ → Bool) where
  -- an item at the start is the only one
  pub item_same : (i j : Item) (x y : List ℕ) → IsItem shows i → IsItem shows j → item_text i ++ x ≡ item_text j ++ y → (i ≡ j) × (x ≡ y)
  item_same (Character b) (Character c) x y h k e = let s = encode_same b c x y e in (ap Character s.0, s.1)
  item_same (Character b) j x y h k e = absurd (no_slash b x _ h.1 e)
  item_same i (Character c) x y h k e = absurd (no_slash c y _ k.1 (sym e))
  item_same Backslash Backslash x y h k e = (refl, (tails (tails e).1).1)
  item_same (ByteUnit u) (ByteUnit v) x y h k e = let s = byte_same u v x y (tails (tails e).1).1 in (ap ByteUnit s.0, s.1)
  item_same (WideUnit u) (WideUnit v) x y h k e = let s = wide_same u v x y (tails (tails e).1).1 in (ap WideUnit s.0, s.1)
  item_same (WideUnit u) (LongCharacter c) x y h k e = absurd (wide_or_long u x _ h e)
  item_same (LongCharacter b) (WideUnit u) x y h k e = absurd (wide_or_long u y _ k (sym e))
  item_same (LongCharacter b) (LongCharacter c) x y h k e = grind (arith, long_same, append_assoc, long_digits, tails)
  item_same i j x y h k e = let n = (tails (tails e).1).0 in absurd (omega arith)

-- an item's text isn't empty
pub some_bytes : (i : Item) → 0 < length (item_text i)
some_bytes (Character c) = omega (arith, length-encode c, (len_utf8_bounds c).0)
some_bytes i = omega arith

module _ (shows : ℕ → Bool) where
  -- nothing is left, or what begins with no token
  abbrev pub IsDone : List ℕ → Type 0
  IsDone r = (r ≡ []) ⊎ BeginsNoToken shows r

  done_item : (i : Item) (r x : List ℕ) → IsItem shows i → IsDone r → r ≡ item_text i ++ x → ⊥
  done_item i r x h (inl n) e = let l : length (item_text i ++ x) ≡ 0 = ap length (sym e ∙ n) in let m = length-append (item_text i) x in let s = some_bytes i in omega arith
  done_item i r x h (inr s) e = s.none i h x e

  -- a text is read in one way
  pub same_items : (is js : List Item) (r t : List ℕ) → AllByRecursion (IsItem shows) is → AllByRecursion (IsItem shows) js → IsDone r → IsDone t → item_texts is ++ r ≡ item_texts js ++ t → (is ≡ js) × (r ≡ t)
  same_items [] [] r t a b d f e = (refl, e)
  same_items [] (j ∷ js) r t a b d f e = absurd (done_item j r (item_texts js ++ t) b.0 d (e ∙ append_assoc (item_text j) (item_texts js) t))
  same_items (i ∷ is) [] r t a b d f e = absurd (done_item i t (item_texts is ++ r) a.0 f (sym e ∙ append_assoc (item_text i) (item_texts is) r))
  same_items (i ∷ is) (j ∷ js) r t a b d f e =
      let s = item_same shows i j (item_texts is ++ r) (item_texts js ++ t) a.0 b.0 (sym (append_assoc (item_text i) (item_texts is) r) ∙ e ∙ append_assoc (item_text j) (item_texts js) t) in
      let k = same_items is js r t a.1 b.1 d f s.1 in
      (ap (λ x. x ∷ is) s.0 ∙ ap (λ x. j ∷ x) k.0, k.1)
