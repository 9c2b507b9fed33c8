-- The first component of what follows a path's root, and where it ends.
use Rattle.std.specs.Prelude.{◌≡◌, ◌⊎◌, ℕ, List, [], ◌++◌, drop, Some}
use Rattle.path_rules.specs.declared.rules.Rules.{Rules}
use Rattle.path_rules.specs.Separators.{IsField}
use Rattle.path_rules.specs.Component.{Item, named, components_in}
use Rattle.path_rules.specs.Trailing.{EndsWithSeparator}

-- what comes before the part names nothing, and is empty or ends with a separator
pub record IsSkipped (r : Rules) (body left : List ℕ) : Type 0 where
  pub skipped : List ℕ
  pub joined : body ≡ skipped ++ left
  pub nothing : components_in r skipped ≡ []
  pub ends : (skipped ≡ []) ⊎ EndsWithSeparator r skipped

-- the first part that names a component; the rest is what follows the separator after it
pub record IsFirstPart (r : Rules) (body : List ℕ) (item : Item) (rest : List ℕ) : Type 0 where
  pub left : List ℕ
  pub skipped : IsSkipped r body left
  pub part : List ℕ
  pub more : List ℕ
  pub field : IsField r left part more
  pub names : named r part ≡ Some item
  pub is : rest ≡ drop 1 more
