-- The bytes of a raw string that is borrowed or owned, and what a conversion between the two types keeps of it.
use Rattle.std.specs.Prelude.{◌≡◌, ℕ, List}
use Rattle.platform_str.specs.{declared.platform.Platform.Ghosts, declared.cow.OsStrCow.OsStrCow, Strings.bytes, Strings.string_vec_of}
use Rattle.platform_str.specs.declared.cow.OsStrCow.TheVariants as string
use Rattle.os_str_bytes.specs.{declared.raw_cow.CowRawOsStr.CowRawOsStr, declared.raw_cow.CowRawOsStr.TheVariants.Borrowed, declared.raw_cow.CowRawOsStr.TheVariants.Owned, Raw.raw_bytes, Raw.raw_vec_of}

module _ {E A : Type 0} {P : Ghosts E} where
  abbrev pub raw_cow_bytes : CowRawOsStr E A P → List ℕ
  raw_cow_bytes (Borrowed s) = raw_bytes s
  raw_cow_bytes (Owned s) = (raw_vec_of s).items

  -- both are borrowed and have the same bytes, or both are owned, in one vector
  abbrev pub IsKept : OsStrCow E A P → CowRawOsStr E A P → Type 0
  IsKept (string.Borrowed s) (Borrowed raw) = raw_bytes raw ≡ bytes s
  IsKept (string.Borrowed s) (Owned raw) = ⊥
  IsKept (string.Owned s) (Borrowed raw) = ⊥
  IsKept (string.Owned s) (Owned raw) = raw_vec_of raw ≡ string_vec_of s
