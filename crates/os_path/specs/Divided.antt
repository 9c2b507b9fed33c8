-- A path divided into its components and what is between them, in bytes and in units.
use Rattle.std.specs.Prelude.{◌≡◌, ℕ, List, [], ◌∷◌, ◌++◌, length}
use Rattle.std.specs.List.{flat_map}
use Rattle.wtf8_core.specs.Boundary.{IsBoundary}
use Rattle.path_rules.specs.declared.rules.Rules.{Rules}
use Rattle.path_rules.specs.declared.rules.Style.{Style}
use Rattle.path_rules.specs.StyleRules.{rules_of_path}
use Rattle.path_rules.specs.Component.{Item}
use Rattle.path_rules.specs.Divided.{part_of, IsGap, Place, AtStart, IsGapBefore, IsGapAtEnd, place_after}

-- a gap of separators and of dots that name nothing, as it has to be at its place, a component, and so on up to a gap at the end
abbrev pub AreByTurns : Style → Rules → Place → List Item → List (List ℕ) → Type 0
AreByTurns w r place [] parts = (gap : List ℕ) × (IsGap gap × (IsGapAtEnd r place gap × (parts ≡ gap ∷ [])))
AreByTurns w r place (x ∷ xs) parts = (gap : List ℕ) × ((more : List (List ℕ)) × (IsGap gap × (IsGapBefore r place x gap × ((parts ≡ gap ∷ part_of x ∷ more) × AreByTurns w r (place_after w r x) xs more))))

-- such parts, one after the other, are the path's bytes, and their units its units; each is cut at boundaries
pub record AreParts (w : Style) (units : List ℕ → List ℕ) (path : List ℕ) (items : List Item) (parts : List (List ℕ)) : Type 0 where
  pub turns : AreByTurns w (rules_of_path w path) AtStart items parts
  pub in_bytes : path ≡ flat_map (λ part. part) parts
  pub in_units : units path ≡ flat_map units parts
  pub cuts : (before after : List (List ℕ)) → parts ≡ before ++ after → IsBoundary path (length (flat_map (λ part. part) before))
