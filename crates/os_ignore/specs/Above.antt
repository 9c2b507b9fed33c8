-- The verdicts of the directories above a path. Only private contracts name this.
use Rattle.std.specs.Prelude.{◌≡◌, ◌≤◌, ◌<◌, ◌-◌, ℕ, List, length, take, get_or, true, Option, Some, None}
use Rattle.os_ignore.specs.declared.file.File.{File}
use Rattle.os_ignore.specs.declared.verdict.Verdict.{Verdict}
use Rattle.os_ignore.specs.declared.walk.Above.{Above}
use Rattle.os_ignore.specs.Components.{IsPlain, IsCut}
use Rattle.os_ignore.specs.Links.{IsUpTo}
use Rattle.os_ignore.specs.Verdicts.{IsVerdict}

-- both begin with the same bytes, as many as these
pub record IsShared (path other : List ℕ) (count : ℕ) : Type 0 where
  pub in_path : count ≤ length path
  pub in_other : count ≤ length other
  pub same : take count path ≡ take count other

module _ {A : Type 0} where
  -- the directory ends at a slash of the path, and has this verdict and so many files up to the last above what is in it
  abbrev pub IsDecided : List (File A) → List ℕ → Above → Type 0
  IsDecided files path directory = (0 < directory.start) × ((get_or path (directory.start - 1) 0 ≡ 0x2F) × (∥ IsVerdict files (take (directory.start - 1) path) true directory.verdict ∥₁ × ∥ IsUpTo (take directory.start path) files directory.files ∥₁))

  -- the directory that the path is in has this verdict, if it is in one
  abbrev pub IsIn : List (File A) → List ℕ → Option Verdict → Type 0
  IsIn files path None = IsPlain 0x2F path
  IsIn files path (Some verdict) = (directory name : List ℕ) × (IsCut 0x2F path directory name × (IsPlain 0x2F name × ∥ IsVerdict files directory true verdict ∥₁))
