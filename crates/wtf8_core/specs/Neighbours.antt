-- WTF-8 by what each byte and the four before it are, which is what vectors test. No contract of another crate names these.
use Rattle.std.specs.Prelude.{◌≡◌, ℕ, suc, ◌<◌, ◌≤◌, ◌⊎◌, List, [], ◌∷◌, slice_index}
use Rattle.std.specs.Int.{IsInRange}
use Rattle.wtf8_core.specs.{Byte.IsContinuation, Surrogate.IsHigh, declared.vectors.Encoding.Encoding, declared.vectors.Encoding.TheVariants.Utf8}

-- none of the last three bytes x, y and z is the lead of a form that continues after them
pub record IsClosed (x y z : ℕ) : Type 0 where
  pub fourth : x < 0xF0
  pub third : y < 0xE0
  pub second : z < 0xC0

-- one of them is
abbrev pub IsUnfinished : ℕ → ℕ → ℕ → Type 0
IsUnfinished x y z = (0xF0 ≤ x) ⊎ ((0xE0 ≤ y) ⊎ (0xC0 ≤ z))

-- the byte b may follow the byte z, as far as these two bytes determine it
pub record MayFollow (z b : ℕ) : Type 0 where
  pub lead : 0xC0 ≤ z → IsInRange 0xC2 0xF4 z
  pub three_long : z ≡ 0xE0 → 0xA0 ≤ b
  pub four_long : z ≡ 0xF0 → 0x90 ≤ b
  pub within : z ≡ 0xF4 → b < 0x90

-- the byte b may follow w, x, y and z: it is a continuation if a form continues there, and else begins a code point; it makes no pair of surrogates and, in UTF-8, begins no surrogate
pub record MayFollowAll (encoding : Encoding) (w x y z b : ℕ) : Type 0 where
  pub begins : IsClosed x y z → (b < 0x80) ⊎ (0xC0 ≤ b)
  pub continues : IsUnfinished x y z → IsContinuation b
  pub follows : MayFollow z b
  pub unpaired : w ≡ 0xED → 0xA0 ≤ x → x < 0xB0 → z ≡ 0xED → b < 0xB0
  pub plain : encoding ≡ Utf8 → z ≡ 0xED → b < 0xA0

-- each of the n bytes after the first four may follow those before it
abbrev pub EachMayFollow : Encoding → ℕ → List ℕ → Type 0
EachMayFollow encoding n bs =
    (i : ℕ) → i < n → MayFollowAll encoding (slice_index bs i) (slice_index bs (suc i)) (slice_index bs (suc (suc i))) (slice_index bs (suc (suc (suc i)))) (slice_index bs (suc (suc (suc (suc i)))))

-- the same of each of the bytes after w, x, y and z, by recursion
abbrev pub Steps : Encoding → ℕ → ℕ → ℕ → ℕ → List ℕ → Type 0
Steps encoding w x y z [] = Unit {0}
Steps encoding w x y z (b ∷ bs) = MayFollowAll encoding w x y z b × Steps encoding x y z b bs

-- a code point begins after the bytes x, y and z, and the code point p before it is a high surrogate exactly if these bytes are its form
pub record IsBetweenCodePoints (p x y z : ℕ) : Type 0 where
  pub closed : IsClosed x y z
  pub high : IsHigh p → (x ≡ 0xED) × (0xA0 ≤ y) × (y < 0xB0)
  pub only_high : x ≡ 0xED → 0xA0 ≤ y → y < 0xB0 → IsHigh p
