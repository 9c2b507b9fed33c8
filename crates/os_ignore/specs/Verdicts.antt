-- Which line decides a path (gitignore, "DESCRIPTION").
use Rattle.std.specs.Prelude.{◌≡◌, ◌<◌, ℕ, Bool, true, false, List, [], ◌∷◌, ◌++◌, length}
use Rattle.std.specs.List.{AllByRecursion}
use Rattle.os_ignore.specs.declared.line.Line.{Line}
use Rattle.os_ignore.specs.declared.file.File.{File}
use Rattle.os_ignore.specs.declared.verdict.Verdict.{Verdict}
use Rattle.os_ignore.specs.declared.verdict.Verdict.TheVariants.{Neither, Ignored, TakenIn}
use Rattle.os_ignore.specs.Components.{IsCut}
use Rattle.os_ignore.specs.Matching.{LineMatches}

-- the rest is the path from the directory, which is empty at the top of the tree
abbrev pub IsBelow : List ℕ → List ℕ → List ℕ → Type 0
IsBelow [] path rest = path ≡ rest
IsBelow (b ∷ directory) path rest = path ≡ (b ∷ directory) ++ 0x2F ∷ rest

module _ {A : Type 0} where
  -- none of the lines matches
  abbrev pub NoneMatches : List ℕ → Bool → List (Line A) → Type 0
  NoneMatches path is_dir lines = AllByRecursion (λ line. LineMatches line path is_dir → ⊥) lines

  -- the line is the last of the lines that matches
  pub record IsLastMatch (path : List ℕ) (is_dir : Bool) (lines : List (Line A)) (line : Line A) : Type 0 where
    pub front : List (Line A)
    pub back : List (Line A)
    pub joined : lines ≡ front ++ line ∷ back
    pub matches : LineMatches line path is_dir
    pub none_after : NoneMatches path is_dir back

  -- the path is below the file's directory, and the line is the last that matches it from there
  pub record FileDecides (path : List ℕ) (is_dir : Bool) (file : File A) (line : Line A) : Type 0 where
    pub rest : List ℕ
    pub below : IsBelow file.directory.items path rest
    pub last : IsLastMatch rest is_dir file.lines.items line

  -- the path isn't below the file's directory, or no line matches it from there
  abbrev pub FileIsSilent : List ℕ → Bool → File A → Type 0
  FileIsSilent path is_dir file = (rest : List ℕ) → IsBelow file.directory.items path rest → NoneMatches rest is_dir file.lines.items

  -- the line is that of the last file in which a line matches
  pub record Decides (files : List (File A)) (path : List ℕ) (is_dir takes_in : Bool) (file_number line_number : ℕ) : Type 0 where
    pub front : List (File A)
    pub file : File A
    pub back : List (File A)
    pub joined : files ≡ front ++ file ∷ back
    pub line : Line A
    pub decides : FileDecides path is_dir file line
    pub none_after : AllByRecursion (FileIsSilent path is_dir) back
    pub taken : line.takes_in ≡ takes_in
    pub numbers : (file.number ≡ file_number) × (line.number ≡ line_number)

  -- the verdict of the files on the path itself, without the directories above it
  abbrev pub IsOwn : List (File A) → List ℕ → Bool → Verdict → Type 0
  IsOwn files path is_dir Neither = AllByRecursion (FileIsSilent path is_dir) files
  IsOwn files path is_dir (Ignored file line) = Decides files path is_dir false file line
  IsOwn files path is_dir (TakenIn file line) = Decides files path is_dir true file line

-- the verdict ignores the path
abbrev pub is_ignored : Verdict → Bool
is_ignored Neither = false
is_ignored (Ignored file line) = true
is_ignored (TakenIn file line) = false

module _ {A : Type 0} where
  -- the files don't ignore the directory itself
  pub record IsShown (files : List (File A)) (directory : List ℕ) : Type 0 where
    pub verdict : Verdict
    pub own : IsOwn files directory true verdict
    pub shown : is_ignored verdict ≡ false

  -- the files ignore no directory itself that is above the path and has fewer than n bytes
  abbrev pub AreShown : List (File A) → List ℕ → ℕ → Type 0
  AreShown files path n = (front back : List ℕ) → IsCut 0x2F path front back → length front < n → IsShown files front

  -- a directory above the path is ignored, and none above that is
  pub record IsHidden (files : List (File A)) (path : List ℕ) (verdict : Verdict) : Type 0 where
    pub front : List ℕ
    pub back : List ℕ
    pub above : IsCut 0x2F path front back
    pub own : IsOwn files front true verdict
    pub ignored : is_ignored verdict ≡ true
    pub first : AreShown files path (length front)

  -- the verdict of the files on a path in their tree: a directory that is ignored hides what is in it, and one that is taken in doesn't take in what is in it
  pub data IsVerdict (files : List (File A)) (path : List ℕ) (is_dir : Bool) (verdict : Verdict) : Type 0 where
    hidden : IsHidden files path verdict → IsVerdict files path is_dir verdict
    own : AreShown files path (length path) → IsOwn files path is_dir verdict → IsVerdict files path is_dir verdict
