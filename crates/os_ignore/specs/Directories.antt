-- Ignore files in the order of their directories: the longer is the deeper, among those above one path.
use Rattle.std.specs.Prelude.{◌≡◌, ◌≤◌, ◌<◌, ℕ, List, [], ◌∷◌, ◌++◌, length}
use Rattle.std.specs.List.{AllByRecursion}
use Rattle.os_ignore.specs.declared.file.File.{File}

module _ {A : Type 0} where
  -- each file is in a longer directory
  abbrev pub AreLonger : List ℕ → List (File A) → Type 0
  AreLonger directory files = AllByRecursion (λ file. length directory < length file.directory.items) files

  -- the last of the files isn't in a longer directory
  abbrev pub EndsNoLonger : List ℕ → List (File A) → Type 0
  EndsNoLonger directory files = (front : List (File A)) (last : File A) → files ≡ front ++ last ∷ [] → length last.directory.items ≤ length directory

  -- a file in the directory comes after these files, and before the others
  pub record IsPlace (directory : List ℕ) (files before : List (File A)) : Type 0 where
    pub after : List (File A)
    pub joined : files ≡ before ++ after
    pub no_longer : EndsNoLonger directory before
    pub longer : AreLonger directory after
