-- Lossy texts: U+FFFD in place of what isn't text (std's `String::from_utf8_lossy`; WTF-8: conversion to UTF-8).
use Rattle.std.specs.Prelude.{◌≡◌, ℕ, ◌+◌, if◌then◌else◌, List, [], ◌∷◌, ◌++◌, take, drop, map}
use Rattle.std.specs.{List.flat_map, Str.IsUtf8, Str.IsValidUpTo}
use Rattle.wtf8_core.specs.{Surrogate.is_surrogate, CodePoint.encode, Wtf8.Encodes, Utf8.IsIllFormedPart}

-- the bytes of U+FFFD
abbrev pub replacement : List ℕ
replacement = 0xEF ∷ 0xBF ∷ 0xBD ∷ []

-- the lossy text of any bytes: one U+FFFD replaces each maximal ill-formed part
pub data IsLossyText : List ℕ → List ℕ → Type 0 where
  text : {b : List ℕ} → IsUtf8 b → IsLossyText b b
  replaced : {b lossy : List ℕ} (n m : ℕ) → IsValidUpTo b n → IsIllFormedPart (drop n b) m → IsLossyText (drop (n + m) b) lossy → IsLossyText b (take n b ++ (replacement ++ lossy))

-- U+FFFD for a surrogate
abbrev pub without_surrogate : ℕ → ℕ
without_surrogate c = if is_surrogate c then 0xFFFD else c

-- the lossy text of WTF-8 bytes: one U+FFFD replaces each surrogate
pub record IsWtf8LossyText (bytes lossy : List ℕ) : Type 0 where
  pub code_points : List ℕ
  pub encoded : Encodes bytes code_points
  pub are : lossy ≡ flat_map encode (map without_surrogate code_points)
