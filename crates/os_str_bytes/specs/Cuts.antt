-- The parts of a raw string that cuts give.
use Rattle.std.specs.Prelude.{◌≡◌, ◌++◌, ℕ, List, take, drop}
use Rattle.platform_str.specs.declared.platform.Platform.{Ghosts}
use Rattle.os_str_ext.specs.Range.{IsPartInUnits}
use Rattle.os_str_bytes.specs.{declared.raw_str.RawOsStr.RawOsStr, Raw.raw_bytes, Raw.raw_units}

module _ {E : Type 0} {P : Ghosts E} where
  -- prefix and suffix are the bytes of s before index `at` and from it on, and the units of both, joined, are those of s
  pub record AreBothParts (s : RawOsStr E P) (at : ℕ) (prefix suffix : List ℕ) : Type 0 where
    pub before : prefix ≡ take at (raw_bytes s)
    pub after : suffix ≡ drop at (raw_bytes s)
    pub units : raw_units s ≡ P.units prefix ++ P.units suffix

  -- part is the bytes of s from index i to index j; the units before it, its own and those after it, joined, are those of s
  pub record IsPart (s : RawOsStr E P) (i j : ℕ) (part : List ℕ) : Type 0 where
    pub bytes : part ≡ drop i (take j (raw_bytes s))
    pub units : IsPartInUnits P.units (raw_bytes s) i j part
