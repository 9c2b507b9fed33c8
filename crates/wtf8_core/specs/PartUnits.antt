-- Units of parts, the strings in which there is no whole character (this project's own).
use Rattle.std.specs.Prelude.{ℕ, nat_lt, if◌then◌else◌, List, [], ◌∷◌}
use Rattle.std.specs.List.{All}
use Rattle.wtf8_core.specs.{Surrogate.IsSurrogate, CodePoint.encode, Wtf8.HasNoSurrogatePair}

-- the bytes of a unit of a part: a unit below 100 (hexadecimal) is a byte itself, any other is a surrogate
abbrev pub unit_bytes : ℕ → List ℕ
unit_bytes u = if nat_lt u 0x100 then u ∷ [] else encode u

-- surrogates, with no high one directly before a low one
pub record AreLoneSurrogates (us : List ℕ) : Type 0 where
  pub surrogates : All IsSurrogate us
  pub no_pair : HasNoSurrogatePair us
