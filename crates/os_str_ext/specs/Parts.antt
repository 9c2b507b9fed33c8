-- The view that contracts have of a part and of a unit: the part's bytes, and the unit's number.
use Rattle.std.specs.Prelude.{ℕ, List}
use Rattle.platform_str.specs.{declared.platform.Platform.Ghosts, Strings.bytes}
use Rattle.os_str_ext.specs.declared.os_units.{NonUnicodeOsStr.NonUnicodeOsStr, OsUnit.OsUnit}

module _ {E : Type 0} {P : Ghosts E} where
  -- the bytes of a part
  abbrev pub part_bytes : NonUnicodeOsStr E P → List ℕ
  part_bytes part = bytes part.string

-- the number of a unit
abbrev pub unit_number : OsUnit → ℕ
unit_number unit = unit.number
