-- Sets of path patterns that C keeps.
use Rattle.std.specs.Prelude.{◌≡◌, ◌⊎◌, ℕ, List, Option, Some, None}
use Rattle.std.specs.Arc.{arc_value}
use Rattle.std.specs.declared.alloc.Global.{Global}
use Rattle.wildcards.specs.declared.options.Options.{Options}
use Rattle.wildcards.specs.declared.set.Pattern.{Pattern}
use Rattle.glob_patterns.specs.declared.options.GlobOptions.{GlobOptions}
use Rattle.osbytes_c.specs.declared.globs.Rejection.{Rejection}
use Rattle.osbytes_c.specs.declared.globs.sets.Globs.{Globs}
use Rattle.osbytes_c.specs.declared.globs.sets.PlatformGlobs.{PlatformGlobs}
use Rattle.osbytes_c.specs.declared.globs.sets.PlatformGlobs.TheVariants.{Unix, Windows, Wasm}
use Rattle.osbytes_c.specs.Globs.{AreCompiled, AreNamesReported, IsListRejection, IsMatched}
use Rattle.osbytes_c.specs.ItemLists.{Views, HasOther}
use Rattle.osbytes_c.specs.Platforms.{formed_on, units_on}
use Rattle.osbytes_c.specs.Statuses.{done, faulty, none, empty}

module _ (formed : List ℕ → Type 0) (units : List ℕ → List ℕ) where
  -- the status for a path: one of the compiled patterns matches it, none does, or it isn't a string
  abbrev pub IsAnswerOn : Options → List (Pattern Global) → List ℕ → ℕ → Type 0
  IsAnswerOn matching compiled path answer =
      ((answer ≡ done) × (formed path × IsMatched units matching compiled path))
      ⊎ (((answer ≡ none) × (formed path × (¬ (IsMatched units matching compiled path)))) ⊎ ((answer ≡ faulty) × (¬ (formed path))))

-- the set is that of the list, on the platform
abbrev pub IsSetOf : ℕ → GlobOptions → Views → PlatformGlobs → Type 0
IsSetOf platform o patterns (Unix globs) = (platform ≡ 0) × AreCompiled (formed_on 0) (units_on 0) o patterns globs.set.options globs.set.patterns.items
IsSetOf platform o patterns (Windows globs) = (platform ≡ 1) × AreCompiled (formed_on 1) (units_on 1) o patterns globs.set.options globs.set.patterns.items
IsSetOf platform o patterns (Wasm globs) = (platform ≡ 2) × AreCompiled (formed_on 2) (units_on 2) o patterns globs.set.options globs.set.patterns.items

-- such a set is kept
abbrev pub IsMade : ℕ → GlobOptions → Views → Option Globs → Type 0
IsMade platform o patterns None = ⊥
IsMade platform o patterns (Some globs) = IsSetOf platform o patterns (arc_value globs.set)

-- this set is kept
abbrev pub IsKept : PlatformGlobs → Option Globs → Type 0
IsKept set None = ⊥
IsKept set (Some globs) = arc_value globs.set ≡ set

-- the same set is kept
abbrev pub IsSame : Option Globs → Option Globs → Type 0
IsSame None other = ⊥
IsSame (Some globs) None = ⊥
IsSame (Some globs) (Some other) = arc_value other.set ≡ arc_value globs.set

-- the status that a set returns for a path
abbrev pub IsAnswerOf : List ℕ → PlatformGlobs → ℕ → Type 0
IsAnswerOf path (Unix globs) answer = IsAnswerOn (formed_on 0) (units_on 0) globs.set.options globs.set.patterns.items path answer
IsAnswerOf path (Windows globs) answer = IsAnswerOn (formed_on 1) (units_on 1) globs.set.options globs.set.patterns.items path answer
IsAnswerOf path (Wasm globs) answer = IsAnswerOn (formed_on 2) (units_on 2) globs.set.options globs.set.patterns.items path answer

-- that of what is kept, or that nothing is
abbrev pub IsAnswer : List ℕ → Option Globs → ℕ → Type 0
IsAnswer path None answer = answer ≡ empty
IsAnswer path (Some globs) answer = IsAnswerOf path (arc_value globs.set) answer

-- the status for a path is that of a set compiled from the patterns of the list
abbrev pub IsMatchedBy : ℕ → GlobOptions → Views → List ℕ → ℕ → Type 0
IsMatchedBy platform o patterns path answer =
    (matching : Options) × ((compiled : List (Pattern Global))
    × (AreCompiled (formed_on platform) (units_on platform) o patterns matching compiled × IsAnswerOn (formed_on platform) (units_on platform) matching compiled path answer))

-- each path of a list has a byte that records whether a pattern of the set matches it
abbrev pub AreReportedOn : PlatformGlobs → Views → List ℕ → Type 0
AreReportedOn (Unix globs) paths answers = AreNamesReported (formed_on 0) (units_on 0) globs.set.options globs.set.patterns.items paths answers
AreReportedOn (Windows globs) paths answers = AreNamesReported (formed_on 1) (units_on 1) globs.set.options globs.set.patterns.items paths answers
AreReportedOn (Wasm globs) paths answers = AreNamesReported (formed_on 2) (units_on 2) globs.set.options globs.set.patterns.items paths answers

-- the same of what is kept
abbrev pub AreReportedBy : Option Globs → Views → List ℕ → Type 0
AreReportedBy None paths answers = ⊥
AreReportedBy (Some globs) paths answers = AreReportedOn (arc_value globs.set) paths answers

-- an item of a list isn't a string of the set's platform
abbrev pub HasOtherOn : PlatformGlobs → Views → Type 0
HasOtherOn (Unix globs) list = HasOther (formed_on 0) list
HasOtherOn (Windows globs) list = HasOther (formed_on 1) list
HasOtherOn (Wasm globs) list = HasOther (formed_on 2) list

-- the same of what is kept
abbrev pub HasOtherBy : Option Globs → Views → Type 0
HasOtherBy None list = ⊥
HasOtherBy (Some globs) list = HasOtherOn (arc_value globs.set) list

-- why a set reports nothing for a list of paths
abbrev pub IsReportedRejection : PlatformGlobs → Views → Rejection → Type 0
IsReportedRejection (Unix globs) list rejection = IsListRejection (formed_on 0) list rejection
IsReportedRejection (Windows globs) list rejection = IsListRejection (formed_on 1) list rejection
IsReportedRejection (Wasm globs) list rejection = IsListRejection (formed_on 2) list rejection
