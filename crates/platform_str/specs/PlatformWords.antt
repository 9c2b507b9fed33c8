-- Words that more than one platform uses, and that bytes are units of 16 bits. Each platform's own are in `platforms`.
use Rattle.std.specs.Prelude.{◌≡◌, ℕ, ◌<◌, ◌^◌, List}
use Rattle.std.proofs.Common.{arith}
use Rattle.std.specs.List.{All}
use Rattle.wtf8_core.specs.Byte.{IsByte}

-- units of 16 bits
abbrev pub AreWideUnits : List ℕ → Type 0
AreWideUnits us = All (λ u. u < 2 ^ 16) us

-- Unix and wasm: the units are the bytes; wasm: the lossy text is the text
abbrev pub itself : List ℕ → List ℕ
itself b = b

-- Windows: one U+FFFD replaces the three bytes of a surrogate; wasm: nothing is replaced
abbrev pub IsThree : List ℕ → ℕ → Type 0
IsThree b n = n ≡ 3

-- bytes are numbers of at most 16 bits
pub wide_bytes : (b : List ℕ) → All IsByte b → AreWideUnits b
wide_bytes b h k d lt = omega (arith, h k d lt)
