-- The ignore files of a tree.
use Rattle.std.specs.Prelude.{◌≡◌, ℕ, Bool, false, List, [], ◌∷◌, ◌++◌, length}
use Rattle.std.specs.List.{AllByRecursion}
use Rattle.os_ignore.specs.declared.file.File.{File}
use Rattle.os_ignore.specs.declared.ignore.Ignore.{Ignore}
use Rattle.os_ignore.specs.declared.reason.NoPattern.{NoPattern}
use Rattle.os_ignore.specs.declared.verdict.Verdict.{Verdict}
use Rattle.os_ignore.specs.declared.verdict.Verdict.TheVariants.{Neither, Ignored, TakenIn}
use Rattle.os_ignore.specs.Components.{pieces}
use Rattle.os_ignore.specs.Directories.{IsPlace}
use Rattle.os_ignore.specs.Files.{AreLines, IsLineText, IsTextAt, NoTextAt, without_mark}
use Rattle.os_ignore.specs.Lines.{SaysNothing}

module _ {A : Type 0} where
  -- the files, in the order in which their lines are tried, the last first
  abbrev pub files_of : Ignore A → List (File A)
  files_of ignore = ignore.files.items

  -- the file is in the directory, its lines are those of the content, without regard to case if it folds, and as many files were added before it
  pub record IsFileAt (folds : Bool) (number : ℕ) (directory content : List ℕ) (file : File A) : Type 0 where
    pub number_is : file.number ≡ number
    pub directory_is : file.directory.items ≡ directory
    pub content_is : file.content.items ≡ content
    pub lines : AreLines folds content file.lines.items

  -- a file is added after the last in a directory that isn't longer
  pub record IsAddedTo (folds : Bool) (directory content : List ℕ) (old new : List (File A)) : Type 0 where
    pub before : List (File A)
    pub file : File A
    pub place : IsPlace directory old before
    pub joined : new ≡ before ++ file ∷ place.after
    pub file_is : IsFileAt folds (length old) directory content file

  -- likewise a file in which case matters
  abbrev pub IsAdded : List ℕ → List ℕ → List (File A) → List (File A) → Type 0
  IsAdded directory content old new = IsAddedTo false directory content old new

  -- the one file is at the top of the tree, and case matters in it
  pub record IsOnly (content : List ℕ) (files : List (File A)) : Type 0 where
    pub file : File A
    pub files_are : files ≡ file ∷ []
    pub file_is : IsFileAt false 0 [] content file

  -- the file has this number, and the text is its line of the other number
  abbrev pub FileHasText : ℕ → ℕ → List ℕ → File A → Type 0
  FileHasText number line text file = (file.number ≡ number) × IsTextAt file.content.items line text

  -- the file has another number, or no such line
  abbrev pub FileHasNoText : ℕ → ℕ → File A → Type 0
  FileHasNoText number line file = file.number ≡ number → NoTextAt file.content.items line

  -- the text is a line of one of the files, by the numbers of the file and of the line
  pub record HasText (files : List (File A)) (number line : ℕ) (text : List ℕ) : Type 0 where
    pub front : List (File A)
    pub file : File A
    pub back : List (File A)
    pub joined : files ≡ front ++ file ∷ back
    pub has : FileHasText number line text file

  -- no file has a line of these numbers
  abbrev pub HasNoText : List (File A) → ℕ → ℕ → Type 0
  HasNoText files number line = AllByRecursion (FileHasNoText number line) files

  -- one of the files has the line that decides
  abbrev pub HasLineOf : List (File A) → Verdict → Type 0
  HasLineOf files Neither = Unit {0}
  HasLineOf files (Ignored file line) = HasNoText files file line → ⊥
  HasLineOf files (TakenIn file line) = HasNoText files file line → ⊥

  -- the files are in one directory, have one number, and are read from one text in one way
  pub record AreOfOneText (file other : File A) : Type 0 where
    pub folds : Bool
    pub number : ℕ
    pub directory : List ℕ
    pub content : List ℕ
    pub file_is : IsFileAt folds number directory content file
    pub other_is : IsFileAt folds number directory content other

-- the other text has an empty line in place of one that is no pattern
pub record IsBlanked (folds : Bool) (A : Type 0) (content other : List ℕ) : Type 0 where
  pub front : List (List ℕ)
  pub back : List (List ℕ)
  pub line : List ℕ
  pub text : List ℕ
  pub read : IsLineText line text
  pub reason : NoPattern
  pub says : SaysNothing folds A text reason
  pub lines : pieces 0xA (without_mark content) ≡ front ++ line ∷ back
  pub others : pieces 0xA (without_mark other) ≡ front ++ [] ∷ back
