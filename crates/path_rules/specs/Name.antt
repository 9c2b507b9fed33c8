-- The parts of a name around its dots (std's `Path::file_stem`, `Path::extension` and `Path::file_prefix`).
use Rattle.std.specs.Prelude.{◌≡◌, ◌≢◌, ◌⊎◌, ℕ, nat_eq, false, List, [], ◌∷◌, ◌++◌}
use Rattle.std.specs.List.{All}
use Rattle.path_rules.specs.declared.rules.Style.{Style}
use Rattle.path_rules.specs.StyleRules.{rules_of_style}
use Rattle.path_rules.specs.Separators.{IsPlain}

-- no byte is a dot
abbrev pub HasNoDot : List ℕ → Type 0
HasNoDot s = All (λ b. nat_eq b 0x2E ≡ false) s

abbrev pub dot_dot : List ℕ
dot_dot = 0x2E ∷ 0x2E ∷ []

-- the extension follows the last dot, which isn't the first byte of the name; `..` has none
pub record IsExtension (name stem extension : List ℕ) : Type 0 where
  pub joined : name ≡ stem ++ 0x2E ∷ extension
  pub some_stem : stem ≢ []
  pub no_dot : HasNoDot extension
  pub other : name ≢ dot_dot

abbrev pub HasNoExtension : List ℕ → Type 0
HasNoExtension name = (stem extension : List ℕ) → ¬ (IsExtension name stem extension)

-- the stem is the name without its extension and the dot before it
abbrev pub IsStem : List ℕ → List ℕ → Type 0
IsStem name stem = ((extension : List ℕ) × IsExtension name stem extension) ⊎ (HasNoExtension name × (stem ≡ name))

-- no byte but the first is a dot
abbrev pub HasNoLaterDot : List ℕ → Type 0
HasNoLaterDot [] = Unit {0}
HasNoLaterDot (b ∷ s) = HasNoDot s

-- the prefix ends before the first dot that isn't the first byte of the name; `..` has no such dot
pub record IsCutAtDot (name prefix more : List ℕ) : Type 0 where
  pub joined : name ≡ prefix ++ 0x2E ∷ more
  pub some_prefix : prefix ≢ []
  pub no_dot : HasNoLaterDot prefix
  pub other : name ≢ dot_dot

abbrev pub IsNamePrefix : List ℕ → List ℕ → Type 0
IsNamePrefix name prefix = ((more : List ℕ) × IsCutAtDot name prefix more) ⊎ ((prefix ≡ name) × ((HasNoLaterDot name) ⊎ (name ≡ dot_dot)))

-- no byte of the extension separates
abbrev pub IsExtensionText : Style → List ℕ → Type 0
IsExtensionText w extension = IsPlain (rules_of_style w) extension
