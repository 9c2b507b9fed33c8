-- A path with a separator at its end (std's `Path::with_trailing_sep`).
use Rattle.std.specs.Prelude.{◌≡◌, ◌⊎◌, ℕ, List, ◌++◌}
use Rattle.path_rules.specs.declared.rules.Style.{Style}
use Rattle.path_rules.specs.StyleRules.{rules_of_style}
use Rattle.path_rules.specs.Trailing.{EndsWithSeparator}
use Rattle.path_building.specs.Join.{IsBetween}

-- the path, and after it a separator, unless it is empty, a drive alone, or ends with one
pub record IsWithTrailingSep (w : Style) (path ended : List ℕ) : Type 0 where
  pub between : List ℕ
  pub written : IsBetween w path between
  pub is : ended ≡ path ++ between

-- with a separator at its end if another path ends with one
abbrev pub IsEndedAs : Style → List ℕ → List ℕ → List ℕ → Type 0
IsEndedAs w other path ended = (EndsWithSeparator (rules_of_style w) other × IsWithTrailingSep w path ended) ⊎ (¬ (EndsWithSeparator (rules_of_style w) other) × (ended ≡ path))
