-- Which line of an ignore file decides each path of a list.
use Rattle.std.specs.Prelude.{◌≡◌, ◌≢◌, ◌↔◌, ℕ, suc, Bool, true, List, [], ◌∷◌, ◌++◌, length, take, drop, get_or}
use Rattle.std.specs.declared.alloc.Global.{Global}
use Rattle.os_ignore.specs.declared.file.File.{File}
use Rattle.os_ignore.specs.declared.verdict.Verdict.{Verdict}
use Rattle.os_ignore.specs.declared.verdict.Verdict.TheVariants.{Neither, Ignored, TakenIn}
use Rattle.os_ignore.specs.Ignores.{IsOnly}
use Rattle.os_ignore.specs.Verdicts.{IsVerdict}
use Rattle.osbytes_c.specs.declared.ignores.Report.{Report}
use Rattle.osbytes_c.specs.ItemLists.{Views, AreItems}

-- how a verdict is reported: 0 neither, 1 ignored by this line, 2 taken in by it
abbrev pub IsReportOf : Verdict → Report → Type 0
IsReportOf Neither reported = (reported.kind ≡ 0) × (reported.line ≡ 0)
IsReportOf (Ignored file line) reported = (reported.kind ≡ 1) × (reported.line ≡ line)
IsReportOf (TakenIn file line) reported = (reported.kind ≡ 2) × (reported.line ≡ line)

-- the verdict of the files on a path is reported; the path is a directory if the flag with this number exists and isn't 0
pub record IsPathReported (files : List (File Global)) (flags : List ℕ) (number : ℕ) (path : List ℕ) (reported : Report) : Type 0 where
  pub is_dir : Bool
  pub flag : (is_dir ≡ true) ↔ (get_or flags number 0 ≢ 0)
  pub verdict : Verdict
  pub is : IsVerdict files path is_dir verdict
  pub reports : IsReportOf verdict reported

-- the verdict on each path is reported, as `IsPathReported` states; the first path has this number
abbrev pub ArePathsReported : List (File Global) → List ℕ → ℕ → List (List ℕ) → List Report → Type 0
ArePathsReported files flags number [] [] = Unit {0}
ArePathsReported files flags number [] (reported ∷ rest) = ⊥
ArePathsReported files flags number (path ∷ paths) [] = ⊥
ArePathsReported files flags number (path ∷ paths) (reported ∷ rest) = IsPathReported files flags number path reported × ArePathsReported files flags (suc number) paths rest

-- the array, whose content was `old`, begins with the reports, truncated to the array's length, and after them it is unchanged; `count` is the number of reports
pub record IsReportTruncated (reported old new : List Report) (count : ℕ) : Type 0 where
  pub same_length : length new ≡ length old
  pub count_is : count ≡ length reported
  pub prefix : take (length old) reported ≡ take count new
  pub after : drop count new ≡ drop count old

-- `more` is appended to `count` in an array, truncated to the array's length, and `len` is how many both are
abbrev pub PushesReports : List Report → List Report → ℕ → List Report → ℕ → Type 0
PushesReports more old count new len = (reported buffer : List Report) → IsReportTruncated reported buffer old count → IsReportTruncated (reported ++ more) buffer new len

-- the verdict of the files on each path of the list is written
pub record AreReportedIn (files : List (File Global)) (flags : List ℕ) (paths : Views) (old new : List Report) (count : ℕ) : Type 0 where
  pub names : List (List ℕ)
  pub are_names : AreItems paths names
  pub reported : List Report
  pub are : ArePathsReported files flags 0 names reported
  pub written : IsReportTruncated reported old new count

-- the same of a file at the top of the tree
pub record IsIgnoreReported (file flags : List ℕ) (paths : Views) (old new : List Report) (count : ℕ) : Type 0 where
  pub files : List (File Global)
  pub only : IsOnly file files
  pub reported : AreReportedIn files flags paths old new count

-- the same without an array
pub record AreReportedOf (file flags : List ℕ) (paths : Views) (reported : List Report) : Type 0 where
  pub files : List (File Global)
  pub only : IsOnly file files
  pub names : List (List ℕ)
  pub are_names : AreItems paths names
  pub are : ArePathsReported files flags 0 names reported
