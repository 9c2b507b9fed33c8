-- Separators at the end of a path (std's `Path::has_trailing_sep` and `Path::trim_trailing_sep`).
use Rattle.std.specs.Prelude.{◌≡◌, ◌⊎◌, ℕ, true, List, [], ◌∷◌, ◌++◌}
use Rattle.std.specs.List.{All}
use Rattle.path_rules.specs.declared.rules.Rules.{Rules}
use Rattle.path_rules.specs.declared.rules.Style.{Style}
use Rattle.path_rules.specs.Separators.{separates}
use Rattle.path_rules.specs.StyleRules.{rules_of_path}
use Rattle.path_rules.specs.Root.{HasRoot}
use Rattle.path_rules.specs.Parent.{HasNoParent}
use Rattle.path_rules.specs.Cut.{IsAsciiCut}

-- the last byte is a separator
pub record EndsWithSeparator (r : Rules) (s : List ℕ) : Type 0 where
  pub before : List ℕ
  pub last : ℕ
  pub joined : s ≡ before ++ last ∷ []
  pub is : separates r last ≡ true

-- t is s without the separators at its end
pub record IsTrimmed (r : Rules) (s t : List ℕ) : Type 0 where
  pub separators : List ℕ
  pub joined : s ≡ t ++ separators
  pub all : All (λ b. separates r b ≡ true) separators
  pub tight : ¬ (EndsWithSeparator r t)
  pub cut : IsAsciiCut t separators

-- a path that is its root: there is a root, and no parent
abbrev pub IsRootAlone : Style → List ℕ → Type 0
IsRootAlone style path = HasRoot style path × HasNoParent style path

-- a root alone is kept, and any other path loses the separators at its end; after `\\?\` a `/` is part of a name
abbrev pub TrimsTrailing : Style → List ℕ → List ℕ → Type 0
TrimsTrailing style path t = (IsRootAlone style path × (t ≡ path)) ⊎ (¬ (IsRootAlone style path) × IsTrimmed (rules_of_path style path) path t)
