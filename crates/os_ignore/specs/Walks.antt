-- Verdicts of paths one after the other.
use Rattle.std.specs.Prelude.{List}
use Rattle.os_ignore.specs.declared.file.File.{File}
use Rattle.os_ignore.specs.declared.walk.Walk.{Walk}

module _ {A : Type 0} where
  -- the files whose lines decide the paths of the walk
  abbrev pub files_of_walk : Walk A → List (File A)
  files_of_walk walk = walk.files.now
