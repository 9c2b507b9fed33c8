-- The bytes of values that are borrowed or owned.
use Rattle.std.specs.Prelude.{◌≡◌, ℕ, List}
use Rattle.std.specs.{declared.vec.Vec.Vec, String.string_bytes}
use Rattle.platform_str.specs.{declared.platform.Platform.Ghosts, declared.cow.OsStrCow.OsStrCow, declared.cow.PathCow.PathCow, declared.cow.ByteCow.ByteCow, declared.cow.StrCow.StrCow, Strings.bytes, Strings.path_bytes, Strings.string_vec_of, Strings.path_vec_of}
use Rattle.platform_str.specs.declared.cow.OsStrCow.TheVariants as string
use Rattle.platform_str.specs.declared.cow.PathCow.TheVariants as path
use Rattle.platform_str.specs.declared.cow.ByteCow.TheVariants as byte
use Rattle.platform_str.specs.declared.cow.StrCow.TheVariants as text

module _ {E A : Type 0} {P : Ghosts E} where
  -- of a string
  abbrev pub cow_bytes : OsStrCow E A P → List ℕ
  cow_bytes (string.Borrowed s) = bytes s
  cow_bytes (string.Owned s) = (string_vec_of s).items

  -- the value is owned, in this vector
  abbrev pub IsOwnedString : OsStrCow E A P → Vec ℕ A → Type 0
  IsOwnedString (string.Borrowed s) vec = ⊥
  IsOwnedString (string.Owned s) vec = string_vec_of s ≡ vec

  -- of a path
  abbrev pub path_cow_bytes : PathCow E A P → List ℕ
  path_cow_bytes (path.Borrowed p) = path_bytes p
  path_cow_bytes (path.Owned p) = (path_vec_of p).items

  abbrev pub IsOwnedPath : PathCow E A P → Vec ℕ A → Type 0
  IsOwnedPath (path.Borrowed p) vec = ⊥
  IsOwnedPath (path.Owned p) vec = path_vec_of p ≡ vec

module _ {A : Type 0} where
  -- of bytes
  abbrev pub byte_cow_bytes : ByteCow A → List ℕ
  byte_cow_bytes (byte.Borrowed b) = b.now
  byte_cow_bytes (byte.Owned v) = v.items

  -- of a text
  abbrev pub str_cow_bytes : StrCow A → List ℕ
  str_cow_bytes (text.Borrowed s) = s.now
  str_cow_bytes (text.Owned s) = string_bytes s
