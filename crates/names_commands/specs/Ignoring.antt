-- Which names ignore files leave out.
use Rattle.std.specs.Prelude.{◌≡◌, ◌≢◌, ◌⊎◌, ◌+◌, ℕ, Bool, true, false, nat_eq, ◌&&◌, cond, List, [], ◌∷◌, ◌++◌, map, length, codes}
use Rattle.std.specs.List.{AllByRecursion}
use denote.Ref.{Bor}
use Rattle.os_ignore.specs.Components.{pieces}
use Rattle.os_ignore.specs.Ignores.{IsAddedTo}
use Rattle.os_ignore.specs.Verdicts.{IsVerdict, is_ignored}
use Rattle.os_ignore.specs.declared.file.File.{File}
use Rattle.os_ignore.specs.declared.verdict.Verdict.{Verdict}
use Rattle.program_frame.specs.Files.{KnownFiles}
use Rattle.list_programs.specs.Items.{IsCutAt, Lacks}

-- the name without one `./` before it; of `.`, which is the top, nothing is left
abbrev pub without_dot : List ℕ → List ℕ
without_dot [] = []
without_dot (a ∷ []) = cond (nat_eq a 0x2E) [] (a ∷ [])
without_dot (a ∷ b ∷ rest) = cond (nat_eq a 0x2E && nat_eq b 0x2F) rest (a ∷ b ∷ rest)

-- the path that a name is, and whether it is that of a directory: the name then ends with a `/`, which the path lacks
abbrev pub IsPath : List ℕ → List ℕ → Bool → Type 0
IsPath name path true = name ≡ path ++ 0x2F ∷ []
IsPath name path false = (path ≡ name) × ((front : List ℕ) → name ≢ front ++ 0x2F ∷ [])

-- the directory's path in the tree: `./` before a path and `/` at its end are left out
abbrev pub IsDirectory : List ℕ → List ℕ → Type 0
IsDirectory word directory = (is_dir : Bool) × IsPath (without_dot word) directory is_dir

-- a component is no name: it is empty, `.` or `..`
abbrev pub IsNoName : List ℕ → Type 0
IsNoName component = (component ≡ []) ⊎ ((component ≡ codes ".") ⊎ (component ≡ codes ".."))

-- the path leads down from the top of the tree: each of its components is a name
abbrev pub LeadsDown : List ℕ → Type 0
LeadsDown path = AllByRecursion (λ component. ¬ (IsNoName component)) (pieces 0x2F path)

-- the word is a directory of the tree: `.` and `./` and nothing are its top, and else it is a path that leads down from there, with or without `./` before it and `/` at its end
abbrev pub IsInside : List ℕ → Type 0
IsInside word = (without_dot word ≡ []) ⊎ ((path : List ℕ) × (is_dir : Bool) × (IsPath (without_dot word) path is_dir × LeadsDown path))

-- a name is a path from the top: it isn't empty, and is that of the top or leads down from there
abbrev pub IsFromTop : List ℕ → Type 0
IsFromTop name = (name ≢ []) × IsInside name

-- names have to be such paths where some value of `--ignore` states a file
abbrev pub needs_tree : List (List ℕ) → Bool
needs_tree [] = false
needs_tree (value ∷ values) = true

-- the name is such a path, if it has to be one
abbrev pub IsInTree : Bool → List ℕ → Type 0
IsInTree from_top name = from_top ≡ true → IsFromTop name

-- a value of `--ignore` is FILE, or DIR=FILE with a directory of the tree
abbrev pub IsPlaced : List ℕ → Type 0
IsPlaced value = (word name : List ℕ) → IsCutAt 0x3D value word name → IsInside word

-- a value of `--ignore` states an ignore file and its directory: FILE is at the top of the tree, and DIR=FILE in DIR, which ends at the first `=`
abbrev pub IsFileIn : List ℕ → List ℕ → List ℕ → Type 0
IsFileIn value directory name =
    (Lacks 0x3D value × ((directory ≡ []) × (name ≡ value)))
    ⊎ ((word : List ℕ) × (IsCutAt 0x3D value word name × IsDirectory word directory))

-- a file that was read: the value that states it, its directory, its name and its bytes
pub record FileRead : Type 0 where
  pub value : List ℕ
  pub directory : List ℕ
  pub name : List ℕ
  pub content : List ℕ

abbrev pub value_of : FileRead → List ℕ
value_of read = read.value

-- the value states the file, which has these bytes
abbrev pub WasRead : KnownFiles → FileRead → Type 0
WasRead known read = IsFileIn read.value read.directory read.name × known.has read.name read.content

-- the text of a word
abbrev pub text_of : Bor (List ℕ) → List ℕ
text_of word = word.now

module _ {A : Type 0} where
  -- the lines of the files ignore the name
  pub record IsIgnored (files : List (File A)) (name : List ℕ) : Type 0 where
    pub path : List ℕ
    pub is_dir : Bool
    pub path_is : IsPath (without_dot name) path is_dir
    pub verdict : Verdict
    pub verdict_is : IsVerdict files path is_dir verdict
    pub ignored : is_ignored verdict ≡ true

  -- files were added, one after the other, each in its directory, without regard to case if they fold it
  abbrev pub AreAdded : Bool → List FileRead → List (File A) → List (File A) → Type 0
  AreAdded folds [] old new = new ≡ old
  AreAdded folds (read ∷ reads) old new = (mid : List (File A)) × IsAddedTo folds read.directory read.content old mid × AreAdded folds reads mid new

  -- the files that these values state were read, and their lines are those of the files, without regard to case if they fold it
  pub record AreRead (known : KnownFiles) (folds : Bool) (values : List (List ℕ)) (files : List (File A)) : Type 0 where
    pub reads : List FileRead
    pub values_are : values ≡ map value_of reads
    pub have : AllByRecursion (WasRead known) reads
    pub added : AreAdded folds reads [] files

-- the first of the values whose file isn't read, and its number, counted from 1
pub record IsFirstUnread (A : Type 0) (known : KnownFiles) (folds : Bool) (values : List (List ℕ)) (number : ℕ) (value : List ℕ) : Type 0 where
  pub before : List (List ℕ)
  pub after : List (List ℕ)
  pub joined : values ≡ before ++ value ∷ after
  pub number_is : number ≡ length before + 1
  pub files : List (File A)
  pub read : AreRead known folds before files
