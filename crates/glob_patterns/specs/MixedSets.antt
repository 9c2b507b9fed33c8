-- Sets of patterns that each have their own options.
use Rattle.std.specs.Prelude.{◌≡◌, ◌≢◌, ◌⊎◌, ◌↔◌, ℕ, zero, suc, Bool, List, [], ◌∷◌, map, IsTrue}
use Rattle.std.specs.List.{AllByRecursion, Contains}
use Rattle.std.specs.List.Sorted.{IsStrictlyIncreasing}
use Rattle.platform_str.specs.declared.platform.Platform.{Ghosts}
use Rattle.platform_str.specs.declared.os_str.OsStr.{OsStr}
use Rattle.platform_str.specs.Strings.{bytes}
use Rattle.wildcards.specs.declared.options.Options.{Options}
use Rattle.wildcards.specs.declared.pattern.Choice.{Choice}
use Rattle.wildcards.specs.declared.pattern_set.PatternSet.{PatternSet}
use Rattle.wildcards.specs.declared.set.Pattern.{Pattern}
use Rattle.wildcards.specs.Sets.{Has, IsHit}
use Rattle.glob_text.specs.declared.fault.PatternFault.{PatternFault}
use Rattle.glob_text.specs.Marks.{Mark}
use Rattle.glob_text.specs.Meaning.{MatchesWrittenOut}
use Rattle.glob_text.specs.Texts.{AreWrittenOut, IsMeaning, IsFault}
use Rattle.glob_patterns.specs.declared.options.GlobOptions.{GlobOptions}
use Rattle.glob_patterns.specs.declared.set_error.GlobSetError.{GlobSetError}
use Rattle.glob_patterns.specs.declared.set_error.GlobSetError.TheVariants as error
use Rattle.glob_patterns.specs.Options.{options_of, syntax_of}

-- the options of a pattern, and its text
abbrev pub Glob : Type 0
Glob = GlobOptions × List ℕ

-- those of a string
abbrev pub glob_of : {E : Type 0} {P : Ghosts E} → GlobOptions × OsStr E P → Glob
glob_of glob = (glob.0, bytes glob.1)

-- the pattern of this index is this
abbrev pub IsAt : (Glob → Type 0) → List Glob → ℕ → Type 0
IsAt Is [] i = ⊥
IsAt Is (glob ∷ globs) zero = Is glob
IsAt Is (glob ∷ globs) (suc i) = IsAt Is globs i

module _ {A : Type 0} where
  -- how a set matches paths
  abbrev pub way_of : PatternSet A → Options
  way_of set = set.options

  -- the pattern of this index in one of the sets matches
  abbrev pub IsSetHit : List (PatternSet A) → List ℕ → ℕ → Type 0
  IsSetHit [] path i = ⊥
  IsSetHit (set ∷ sets) path i = IsHit set.options set.patterns.items path i ⊎ IsSetHit sets path i

  -- exactly the indices whose pattern matches in one of the sets
  pub record FoundInSets (sets : List (PatternSet A)) (path found : List ℕ) : Type 0 where
    pub sound : (i : ℕ) → Contains found i → IsSetHit sets path i
    pub complete : (i : ℕ) → IsSetHit sets path i → Contains found i

  -- exactly the indices whose pattern matches in one of the sets, ascending
  pub record AreSetHits (sets : List (PatternSet A)) (path : List ℕ) (found : List ℕ) : Type 0 where
    pub sound : (i : ℕ) → Contains found i → IsSetHit sets path i
    pub complete : (i : ℕ) → IsSetHit sets path i → Contains found i
    pub ascends : IsStrictlyIncreasing found

module _ (formed : List ℕ → Type 0) (letters : List ℕ → List ℕ) where
  module _ {A : Type 0} where
    -- the pattern of the text where paths are matched in this way, and else one that matches nothing
    abbrev pub IsPatternAt : Options → Glob → Pattern A → Type 0
    IsPatternAt way glob p =
        ((options_of glob.0 ≡ way)
        × IsMeaning formed letters (syntax_of glob.0) glob.1 p.choices.items)
        ⊎ ((options_of glob.0 ≢ way) × (p.choices.items ≡ []))

    -- these patterns, one by one
    abbrev pub ArePatternsAt : Options → List Glob → List (Pattern A) → Type 0
    ArePatternsAt way [] [] = Unit {0}
    ArePatternsAt way [] (p ∷ ps) = ⊥
    ArePatternsAt way (glob ∷ globs) [] = ⊥
    ArePatternsAt way (glob ∷ globs) (p ∷ ps) = IsPatternAt way glob p × ArePatternsAt way globs ps

    -- the sets of patterns and their options: each has those that match paths in its way, and each pattern has a set
    pub record AreSetsOf (globs : List Glob) (sets : List (PatternSet A)) : Type 0 where
      pub each : AllByRecursion (λ set. ArePatternsAt set.options globs set.patterns.items) sets
      pub all : AllByRecursion (λ glob. Has (map way_of sets) (options_of glob.0)) globs

  -- the patterns that the text is written out as match the letters of a path: any list of them does, since a text has one meaning
  abbrev pub MatchesText : List ℕ → Glob → Type 0
  MatchesText path glob =
      (written : List (List Mark))
      × (AreWrittenOut formed letters (syntax_of glob.0) glob.1 written
      × MatchesWrittenOut (options_of glob.0) written path)

  -- these are the indices of the texts that match
  pub record AreGlobMatches (globs : List Glob) (path : List ℕ) (found : List ℕ) : Type 0 where
    pub sound : (i : ℕ) → Contains found i → IsAt (MatchesText path) globs i
    pub complete : (i : ℕ) → IsAt (MatchesText path) globs i → Contains found i

  module _ {A : Type 0} where
    -- whatever texts with options the sets are of: these are the indices of those that match
    abbrev pub AreMatchesOfGlobs : List (PatternSet A) → List ℕ → List ℕ → Type 0
    AreMatchesOfGlobs sets path found =
        (globs : List Glob) → AreSetsOf globs sets → AreGlobMatches globs path found

    -- whatever texts with options the sets are of: one of these matches
    abbrev pub IsMatchOfGlobs : List (PatternSet A) → List ℕ → Bool → Type 0
    IsMatchOfGlobs sets path result =
        (globs : List Glob) → AreSetsOf globs sets
        → IsTrue result ↔ ((i : ℕ) × IsAt (MatchesText path) globs i)

  -- the text of this index has this first fault
  abbrev pub IsFaultAt : List Glob → ℕ → PatternFault → Type 0
  IsFaultAt globs i fault =
      IsAt (λ glob. IsFault formed letters (syntax_of glob.0) glob.1 fault) globs i

  module _ (A : Type 0) where
    -- the text has no fault
    abbrev pub HasMeaning : Glob → Type 0
    HasMeaning glob =
        (choices : List (Choice A)) × IsMeaning formed letters (syntax_of glob.0) glob.1 choices

    -- the first text that has a fault, by its index, and the fault
    abbrev pub IsFirstFaultAt : List Glob → ℕ → PatternFault → Type 0
    IsFirstFaultAt [] i fault = ⊥
    IsFirstFaultAt (glob ∷ globs) zero fault =
        IsFault formed letters (syntax_of glob.0) glob.1 fault
    IsFirstFaultAt (glob ∷ globs) (suc i) fault = HasMeaning glob × IsFirstFaultAt globs i fault

    -- it, or an allocation that failed
    abbrev pub IsMixedError : List Glob → GlobSetError → Type 0
    IsMixedError globs (error.Pattern index fault) = IsFirstFaultAt globs index fault
    IsMixedError globs error.Memory = Unit {0}
