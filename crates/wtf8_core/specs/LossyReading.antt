-- The lossy reading of any bytes: U+FFFD in place of each rejected part (this project's own; std's `String::from_utf8_lossy` reads UTF-8 in this way).
use Rattle.std.specs.Prelude.{ℕ, List, ◌++◌, map, Result, Ok, Err}
use Rattle.std.specs.List.{flat_map}
use Rattle.wtf8_core.specs.{CodePoint.encode, Wtf8.IsWtf8, Fault.IsFirstFault, Lossy.replacement, declared.fault.EncodingError.EncodingError}

-- WTF-8 is its own reading; the reading of other bytes is what comes before the first rejected part, then U+FFFD, then the reading of what follows that part
pub data IsLossyReading : List ℕ → List ℕ → Type 0 where
  formed : {b : List ℕ} → IsWtf8 b → IsLossyReading b b
  replaced : {b cs reading : List ℕ} {fault : EncodingError} (f : IsFirstFault b cs fault) → IsLossyReading f.begins.rest reading → IsLossyReading b (f.before ++ (replacement ++ reading))

-- the code point of an item; FFFD for a fault
abbrev pub lossy_code_point : Result ℕ EncodingError → ℕ
lossy_code_point (Ok c) = c
lossy_code_point (Err fault) = 0xFFFD

-- the forms of the items joined, with that of FFFD for each fault
abbrev pub lossy_forms : List (Result ℕ EncodingError) → List ℕ
lossy_forms items = flat_map encode (map lossy_code_point items)
