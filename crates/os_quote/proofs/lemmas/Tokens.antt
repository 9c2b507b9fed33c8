-- What no token begins with.
use Rattle.os_quote.proofs.Common.{◌≡◌, ◌≢◌, ℕ, ◌/◌, ◌%◌, ◌<◌, Bool, List, [], ◌∷◌, ◌++◌, refl, sym, ap, ◌∙◌, arith, append_assoc, encode_same, encode_ascii, Item, Character, Backslash, ByteUnit, WideUnit, LongCharacter, backslash, byte_digits, wide_digits, long_digits, item_text, IsLong, HasLongTokens, IsItem, is_any, stays_on_line, BeginsNoToken, HasNoWide, HasNoNumber}
use Rattle.os_quote.proofs.lemmas.Items.{tails, byte_same}

-- the bytes don't begin with the two digits of a byte
abbrev pub HasNoByte : List ℕ → Type 0
HasNoByte bs = (b : ℕ) → b < 0x100 → (after : List ℕ) → bs ≢ byte_digits b ++ after

module _ (shows : ℕ → Bool) where
  -- nothing that follows the backslash of a token follows this one
  no_token : (following : List ℕ)
      → ((after : List ℕ) → following ≢ backslash ∷ after)
      → ((u : ℕ) → u < 0x100 → (after : List ℕ) → following ≢ 0x78 ∷ (byte_digits u ++ after))
      → ((u : ℕ) → u < 0x1_0000 → (after : List ℕ) → following ≢ 0x75 ∷ (wide_digits u ++ after))
      → (HasLongTokens shows → (c : ℕ) → IsLong c → (after : List ℕ) → following ≢ 0x75 ∷ 0x7B ∷ (long_digits c ++ 0x7D ∷ after))
      → BeginsNoToken shows (backslash ∷ following)
  no_token following b x u l = record { following = following; first = refl; none = by }
    where
      by : (item : Item) → IsItem shows item → (after : List ℕ) → backslash ∷ following ≢ item_text item ++ after
      by (Character c) h after e = h.1 (encode_same c backslash after following (sym e ∙ ap (λ l. l ++ following) (sym (encode_ascii backslash (omega arith))))).0
      by Backslash h after e = b after (tails e).1
      by (ByteUnit v) h after e = x v h after (tails e).1
      by (WideUnit v) h after e = u v h after (tails e).1
      by (LongCharacter c) h after e = l h.0 c h.1 after ((tails e).1 ∙ ap (λ z. 0x75 ∷ 0x7B ∷ z) (append_assoc (long_digits c) (0x7D ∷ []) after))

  -- nothing follows it
  pub nothing_after : (following : List ℕ) → following ≡ [] → BeginsNoToken shows (backslash ∷ following)
  nothing_after following n =
      no_token following (λ after e. let f = sym n ∙ e in cc) (λ u h after e. let f = sym n ∙ e in cc) (λ u h after e. let f = sym n ∙ e in cc) (λ t c h after e. let f = sym n ∙ e in cc)

  -- another kind of byte
  pub other_kind : (following digits : List ℕ) (kind : ℕ) → following ≡ kind ∷ digits → kind ≢ 0x5C → kind ≢ 0x78 → kind ≢ 0x75 → BeginsNoToken shows (backslash ∷ following)
  other_kind following digits kind is b x u =
      no_token following (λ after e. b (tails (sym is ∙ e)).0) (λ v h after e. x (tails (sym is ∙ e)).0) (λ v h after e. u (tails (sym is ∙ e)).0) (λ t c h after e. u (tails (sym is ∙ e)).0)

  -- `\x` and no two digits
  pub no_digits : (following digits : List ℕ) (kind : ℕ) → following ≡ kind ∷ digits → kind ≡ 0x78 → HasNoByte digits → BeginsNoToken shows (backslash ∷ following)
  no_digits following digits kind is k never = grind (arith, no_token, tails)

  -- `\u` and no four digits, nor, if the form has long tokens, digits between braces
  pub no_number : (following digits : List ℕ) (kind : ℕ) → following ≡ kind ∷ digits → kind ≡ 0x75 → HasNoNumber shows digits → BeginsNoToken shows (backslash ∷ following)
  no_number following digits kind is k never =
      no_token following (λ after e. let t = tails (sym is ∙ e) in omega (arith, k, t.0)) (λ v h after e. let t = tails (sym is ∙ e) in omega (arith, k, t.0))
      (λ v h after e. never.0 v h after (tails (sym is ∙ e)).1) (λ l c h after e. never.1 l c h after (tails (sym is ∙ e)).1)

-- the form that shows every character has no long tokens
pub no_long_tokens : {T : Type 0} → HasLongTokens is_any → T
no_long_tokens h = let n = h.hidden in cc

-- the form on one line has them, since it writes tags with them
pub line_has_long : HasLongTokens stays_on_line
line_has_long = record { character = 0xE_0000; past = omega arith; hidden = refl }

pub long_token : (digits : List ℕ) (c : ℕ) (rest : List ℕ) → digits ≡ 0x7B ∷ (long_digits c ++ 0x7D ∷ rest) → backslash ∷ 0x75 ∷ digits ≡ item_text (LongCharacter c) ++ rest
long_token digits c rest e = ap (λ x. backslash ∷ 0x75 ∷ x) (e ∙ ap (λ x. 0x7B ∷ x) (sym (append_assoc (long_digits c) (0x7D ∷ []) rest)))

-- no two digits, or no further two, are no four
pub no_high_digits : (digits : List ℕ) → HasNoByte digits → HasNoWide digits
no_high_digits digits never u h after e = never (u / 0x100) (omega arith) (byte_digits (u % 0x100) ++ after) e

pub no_low_digits : (digits lower : List ℕ) (high : ℕ) → digits ≡ byte_digits high ++ lower → HasNoByte lower → HasNoWide digits
no_low_digits digits lower high two never u h after e = grind (arith, byte_same, byte_digits)

pub ruleset numbers = (no_long_tokens, long_token, line_has_long)

pub ruleset no_wide = (no_high_digits, no_low_digits)

-- `\u` and what number_token reads after it
pub number_found : (following digits whole : List ℕ) (kind : ℕ) → following ≡ kind ∷ digits → kind ≡ 0x75 → backslash ∷ 0x75 ∷ digits ≡ whole → backslash ∷ following ≡ whole
number_found following digits whole kind is k e = ap (λ x. backslash ∷ x) (is ∙ ap (λ x. x ∷ digits) k) ∙ e

pub ruleset tokens = (nothing_after, other_kind, no_digits, no_number, number_found)
