-- Bytes that both forms of an escape show unchanged, found without reading characters. Only private contracts name these; `IsEscapeBy` says what an escape is.
use Rattle.std.specs.Prelude.{◌≡◌, ◌≢◌, ℕ, ◌≤◌, ◌<◌, List, ◌++◌, length, slice_index}
use Rattle.std.specs.{Int.IsInRange, List.AllByRecursion}
use Rattle.os_quote.specs.Item.{backslash}

-- a printable character of ASCII other than the backslash
abbrev pub IsPlain : ℕ → Type 0
IsPlain b = IsInRange 0x20 0x7E b × (b ≢ backslash)

-- the first n bytes are plain
pub record IsPlainUpTo (bytes : List ℕ) (n : ℕ) : Type 0 where
  pub within : n ≤ length bytes
  pub plain : (i : ℕ) → i < n → IsPlain (slice_index bytes i)

-- the bytes are plain ones, some at least, and then the rest
pub record IsCutAfterPlain (bytes prefix rest : List ℕ) : Type 0 where
  pub plain : AllByRecursion IsPlain prefix
  pub joined : bytes ≡ prefix ++ rest
  pub some : 0 < length prefix
