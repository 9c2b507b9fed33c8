-- IO-lossy bytes, and what the loops over lossy texts and readings have done so far.
use Rattle.std.specs.Prelude.{◌≡◌, ℕ, ◌+◌, ◌<◌, ◌≤◌, List, ◌++◌, length, take, drop, Option}
use Rattle.std.specs.Option.{MatchOption}
use Rattle.wtf8_core.specs.{Utf8.IsProperPrefix, Utf8.IsIllFormed, Lossy.replacement, LossyReading.IsLossyReading}

-- the part of a fault at the start: the bytes end within a character, or an ill-formed part of some length begins there
abbrev pub IsFaultPart : List ℕ → Option ℕ → Type 0
IsFaultPart bytes error_len = MatchOption error_len (IsProperPrefix bytes) (IsIllFormed bytes)

-- the bytes themselves if they are IO-safe, else those of the lossy text
pub record IsIoLossy (io_safe : List ℕ → Type 0) (lossy : List ℕ → List ℕ) (bytes result : List ℕ) : Type 0 where
  pub kept : io_safe bytes → result ≡ bytes
  pub replaced : ¬ (io_safe bytes) → result ≡ lossy bytes

-- the bytes begin with this text, and one U+FFFD replaces what is between it and the rest
pub record IsFirstText (well_formed : List ℕ → Type 0) (lossy : List ℕ → List ℕ) (bytes text rest : List ℕ) : Type 0 where
  pub rest_is : well_formed rest
  pub lossy_is : lossy bytes ≡ text ++ (replacement ++ lossy rest)
  pub shorter : length text + length rest < length bytes

-- the lossy text of all the bytes is what was made so far, and then the lossy text of the rest
pub record IsLeft (well_formed : List ℕ → Type 0) (lossy : List ℕ → List ℕ) (all made rest : List ℕ) : Type 0 where
  pub rest_is : well_formed rest
  pub lossy_is : lossy all ≡ made ++ lossy rest

-- the same in place, up to an index
pub record IsReplacedUpTo (well_formed : List ℕ → Type 0) (lossy : List ℕ → List ℕ) (all bytes : List ℕ) (at : ℕ) : Type 0 where
  pub within : at ≤ length bytes
  pub left : IsLeft well_formed lossy all (take at bytes) (drop at bytes)

-- the lossy reading of all the bytes is what was made so far, and then that of the rest
abbrev pub IsLeftToRead : List ℕ → List ℕ → List ℕ → Type 0
IsLeftToRead all made rest = (later : List ℕ) → IsLossyReading rest later → IsLossyReading all (made ++ later)
