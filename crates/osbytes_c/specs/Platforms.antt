-- The platforms by their numbers: 0 Unix, 1 Windows, 2 wasm.
use Rattle.std.specs.Prelude.{ℕ, zero, suc, List}
use Rattle.std.specs.List.{All}
use Rattle.std.specs.Str.Lossy.{utf8_lossy}
use Rattle.std.specs.Str.{IsUtf8}
use Rattle.wtf8_core.specs.Byte.{IsByte}
use Rattle.wtf8_core.specs.Wtf8.{IsWtf8}
use Rattle.wtf8_core.specs.UnitsOf.{units_of, wtf8_lossy}
use Rattle.platform_str.specs.PlatformWords.{itself}

-- which lists are strings
abbrev pub formed_on : ℕ → List ℕ → Type 0
formed_on zero list = All IsByte list
formed_on (suc zero) list = IsWtf8 list
formed_on (suc (suc n)) list = IsUtf8 list

-- the units of a string
abbrev pub units_on : ℕ → List ℕ → List ℕ
units_on (suc zero) bytes = units_of bytes
units_on platform bytes = itself bytes

-- the lossy text of a string
abbrev pub lossy_on : ℕ → List ℕ → List ℕ
lossy_on zero bytes = utf8_lossy bytes
lossy_on (suc zero) bytes = wtf8_lossy bytes
lossy_on (suc (suc n)) bytes = itself bytes
