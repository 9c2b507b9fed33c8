-- Ignore files of a tree that C keeps.
use Rattle.std.specs.Prelude.{◌≡◌, ◌≢◌, ◌↔◌, ℕ, Bool, true, List, [], Option, Some, None}
use Rattle.std.specs.declared.alloc.Global.{Global}
use Rattle.os_ignore.specs.declared.file.File.{File}
use Rattle.os_ignore.specs.declared.verdict.Verdict.{Verdict}
use Rattle.os_ignore.specs.declared.verdict.Verdict.TheVariants.{Neither, Ignored, TakenIn}
use Rattle.os_ignore.specs.Ignores.{IsAdded, files_of}
use Rattle.os_ignore.specs.Verdicts.{IsVerdict}
use Rattle.osbytes_c.specs.declared.ignores.sets.Decision.{Decision}
use Rattle.osbytes_c.specs.declared.ignores.sets.Ignores.{Ignores}

-- what is reported of a verdict: 0 neither, 1 ignored by this line of this file, 2 taken in by it
abbrev pub Reports : Verdict → Decision → Type 0
Reports Neither decision = (decision.kind ≡ 0) × ((decision.file ≡ 0) × (decision.line ≡ 0))
Reports (Ignored file line) decision = (decision.kind ≡ 1) × ((decision.file ≡ file) × (decision.line ≡ line))
Reports (TakenIn file line) decision = (decision.kind ≡ 2) × ((decision.file ≡ file) × (decision.line ≡ line))

-- the verdict of the files on a path is reported; the path is a directory if the flag isn't 0
pub record IsDecision (files : List (File Global)) (path : List ℕ) (flag : ℕ) (decision : Decision) : Type 0 where
  pub is_dir : Bool
  pub flag_is : (is_dir ≡ true) ↔ (flag ≢ 0)
  pub verdict : Verdict
  pub is : IsVerdict files path is_dir verdict
  pub reports : Reports verdict decision

-- the same of what is kept
abbrev pub IsDecided : Ignores → List ℕ → ℕ → Decision → Type 0
IsDecided ignores path flag decision = IsDecision (files_of ignores.ignore) path flag decision

-- the same of what a place may have
abbrev pub IsDecidedBy : Option Ignores → List ℕ → ℕ → Decision → Type 0
IsDecidedBy None path flag decision = ⊥
IsDecidedBy (Some ignores) path flag decision = IsDecided ignores path flag decision

-- no files are kept
abbrev pub IsEmpty : Option Ignores → Type 0
IsEmpty None = ⊥
IsEmpty (Some ignores) = files_of ignores.ignore ≡ []

-- a file is added to those that were kept
abbrev pub IsAddedTo : List ℕ → List ℕ → Option Ignores → Option Ignores → Type 0
IsAddedTo directory content None new = ⊥
IsAddedTo directory content (Some old) None = ⊥
IsAddedTo directory content (Some old) (Some new) = IsAdded directory content (files_of old.ignore) (files_of new.ignore)

-- the same files are kept, or none in either place
abbrev pub HaveSameFiles : Option Ignores → Option Ignores → Type 0
HaveSameFiles None None = Unit {0}
HaveSameFiles None (Some new) = ⊥
HaveSameFiles (Some old) None = ⊥
HaveSameFiles (Some old) (Some new) = files_of new.ignore ≡ files_of old.ignore

-- the verdict of one file in a directory on a path is reported
abbrev pub IsDecidedOf : List ℕ → List ℕ → List ℕ → ℕ → Decision → Type 0
IsDecidedOf directory content path flag decision = (files : List (File Global)) × (IsAdded directory content [] files × IsDecision files path flag decision)
