-- What contracts say of a string: its bytes, and for an owned one its vector.
use Rattle.std.specs.{Prelude.ℕ, Prelude.List, declared.vec.Vec.Vec}
use Rattle.platform_str.specs.{declared.platform.Platform.Ghosts, declared.os_str.OsStr.OsStr, declared.os_string.OsString.OsString, declared.path.Path.Path, declared.path.PathBuf.PathBuf}

module _ {E : Type 0} {P : Ghosts E} where
  -- the bytes of a borrowed string, and of a path
  abbrev pub bytes : OsStr E P → List ℕ
  bytes s = s.bytes.now

  abbrev pub path_bytes : Path E P → List ℕ
  path_bytes p = bytes p.inner

module _ {E A : Type 0} {P : Ghosts E} where
  -- the vector of an owned string, and of an owned path
  abbrev pub string_vec_of : OsString E A P → Vec ℕ A
  string_vec_of s = s.vec

  abbrev pub path_vec_of : PathBuf E A P → Vec ℕ A
  path_vec_of p = string_vec_of p.inner
