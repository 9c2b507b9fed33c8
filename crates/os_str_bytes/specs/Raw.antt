-- The view that contracts have of raw strings: their bytes, their units, and for owned ones the vector.
use Rattle.std.specs.Prelude.{ℕ, ◌≤◌, List, length}
use Rattle.std.specs.{declared.vec.Vec.Vec, Box.boxed_slice_items}
use Rattle.wtf8_core.specs.Boundary.{IsBoundary}
use Rattle.platform_str.specs.{declared.platform.Platform.Ghosts, Strings.bytes}
use Rattle.os_str_bytes.specs.{declared.raw_str.RawOsStr.RawOsStr, declared.raw_string.RawOsString.RawOsString, declared.raw_box.RawOsStrBox.RawOsStrBox}

module _ {E : Type 0} {P : Ghosts E} where
  -- the bytes of a borrowed raw string
  abbrev pub raw_bytes : RawOsStr E P → List ℕ
  raw_bytes s = bytes s.string

  -- its units
  abbrev pub raw_units : RawOsStr E P → List ℕ
  raw_units s = P.units (raw_bytes s)

module _ {E A : Type 0} {P : Ghosts E} where
  -- the vector of an owned raw string
  abbrev pub raw_vec_of : RawOsString E A P → Vec ℕ A
  raw_vec_of s = s.vec

  -- the bytes of a boxed one
  abbrev pub box_bytes : RawOsStrBox E A P → List ℕ
  box_bytes s = boxed_slice_items s.bytes

-- `truncate` of s may be called with `at`: it is a boundary, or past the length
abbrev pub MayTruncate : List ℕ → ℕ → Type 0
MayTruncate s at = at ≤ length s → IsBoundary s at
