-- The code points, the units and the lossy text of bytes as functions. `laws::functions` says which relation each of them meets.
use Rattle.std.specs.Prelude.{ℕ, false, List, [], ◌∷◌, map, Result, Ok, Err}
use Rattle.std.specs.List.{flat_map}
use Rattle.wtf8_core.specs.{CodePoint.encode, Wtf8.units, Lossy.without_surrogate, Reader.items_after, declared.fault.EncodingError.EncodingError}

-- the code points among items
abbrev pub ok_values : List (Result ℕ EncodingError) → List ℕ
ok_values [] = []
ok_values (Ok c ∷ items) = c ∷ ok_values items
ok_values (Err fault ∷ items) = ok_values items

-- the code points that bytes encode
unfoldable pub code_points_in : List ℕ → List ℕ
code_points_in bytes = ok_values (items_after false bytes)

-- their units
abbrev pub units_of : List ℕ → List ℕ
units_of bytes = units (code_points_in bytes)

-- their lossy text
abbrev pub wtf8_lossy : List ℕ → List ℕ
wtf8_lossy bytes = flat_map encode (map without_surrogate (code_points_in bytes))
