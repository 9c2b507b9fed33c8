-- The files above a path, one by one from the last. Only private contracts name this.
use Rattle.std.specs.Prelude.{◌≡◌, ◌⊎◌, ◌≤◌, ◌<◌, ◌+◌, ℕ, List, [], ◌∷◌, ◌++◌, length}
use Rattle.std.specs.List.{AllByRecursion}
use Rattle.os_ignore.specs.declared.file.File.{File}
use Rattle.os_ignore.specs.Verdicts.{IsBelow}

-- the path is below the directory
abbrev pub IsAbove : List ℕ → List ℕ → Type 0
IsAbove directory path = (rest : List ℕ) × IsBelow directory path rest

-- what the paths in a directory begin with
abbrev pub opened : List ℕ → List ℕ
opened [] = []
opened (b ∷ directory) = (b ∷ directory) ++ 0x2F ∷ []

-- the link of a file in the other directory, once a file in this one, which is shorter, is added behind so many others
pub data IsMoved (index : ℕ) (directory other : List ℕ) (link moved : ℕ) : Type 0 where
  behind : index < link → moved ≡ link + 1 → IsMoved index directory other link moved
  added : link ≤ index → IsAbove directory other → moved ≡ index + 1 → IsMoved index directory other link moved
  apart : link ≤ index → (IsAbove directory other → ⊥) → moved ≡ link → IsMoved index directory other link moved

module _ {A : Type 0} where
  -- if there are files, the last of them is in the directory
  abbrev pub EndsIn : List ℕ → List (File A) → Type 0
  EndsIn directory files = (front : List (File A)) (last : File A) → files ≡ front ++ last ∷ [] → last.directory.items ≡ directory

  -- if there are files, the path is below the directory of the last
  abbrev pub EndsAbove : List ℕ → List (File A) → Type 0
  EndsAbove path files = (front : List (File A)) (last : File A) → files ≡ front ++ last ∷ [] → IsAbove last.directory.items path

  -- so many of the files come up to the last in the directory, or `low`, where none from there on is in it
  pub record IsLastIn (directory : List ℕ) (files : List (File A)) (low count : ℕ) : Type 0 where
    pub before : List (File A)
    pub after : List (File A)
    pub joined : files ≡ before ++ after
    pub count_is : length before ≡ count
    pub from : low ≤ count
    pub none_after : AllByRecursion (λ file. file.directory.items ≡ directory → ⊥) after
    pub ends : (count ≡ low) ⊎ EndsIn directory before

  -- so many of the files come up to the last that is above the path
  pub record IsUpTo (path : List ℕ) (files : List (File A)) (count : ℕ) : Type 0 where
    pub before : List (File A)
    pub after : List (File A)
    pub joined : files ≡ before ++ after
    pub count_is : length before ≡ count
    pub none_after : AllByRecursion (λ file. IsAbove file.directory.items path → ⊥) after
    pub ends : EndsAbove path before

  -- of the files before one, so many come up to the last in its directory or above that, and none is in a longer directory
  pub record IsLink (front : List (File A)) (file : File A) (count : ℕ) : Type 0 where
    pub up_to : IsUpTo (opened file.directory.items) front count
    pub no_longer : AllByRecursion (λ other. length other.directory.items ≤ length file.directory.items) front

  -- each of the files has its link, where others come before them
  abbrev pub AreLinks : List (File A) → List (File A) → List ℕ → Type 0
  AreLinks front [] [] = Unit {0}
  AreLinks front [] (link ∷ links) = ⊥
  AreLinks front (file ∷ files) [] = ⊥
  AreLinks front (file ∷ files) (link ∷ links) = IsLink front file link × AreLinks (front ++ file ∷ []) files links
