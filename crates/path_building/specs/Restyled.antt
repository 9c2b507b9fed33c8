-- A path with the components of a path of the other style (typed-path's `with_encoding`).
use Rattle.std.specs.Prelude.{◌≡◌, ◌≢◌, ◌⊎◌, ◌+◌, ℕ, Bool, true, false, List, [], ◌∷◌}
use Rattle.path_rules.specs.declared.rules.Style.{Style}
use Rattle.path_building.specs.declared.styles.StyleError.{StyleError}
use Rattle.path_building.specs.declared.styles.StyleError.TheVariants as error
use Rattle.path_rules.specs.StyleRules.{rules_of_style}
use Rattle.path_rules.specs.Separators.{IsPlain}
use Rattle.path_rules.specs.Component.{Item, Prefix, RootDir, CurDir, ParentDir, Normal}
use Rattle.path_rules.specs.Components.{AreComponents}
use Rattle.path_building.specs.Normalized.{IsColonName}
use Rattle.path_building.specs.Beginning.{BeginsAsShare}
use Rattle.path_building.specs.Written.{IsPathOf}

-- the style has the component: it has no prefix of the other, and each name in which none of its separators is; on Windows a first name has no colon, before which a drive would be
abbrev pub IsHad : Style → Bool → Item → Type 0
IsHad w first (Prefix s) = ⊥
IsHad w first RootDir = Unit {0}
IsHad w first CurDir = Unit {0}
IsHad w first ParentDir = Unit {0}
IsHad w true (Normal s) = IsPlain (rules_of_style w) s × ¬ (IsColonName w s)
IsHad w false (Normal s) = IsPlain (rules_of_style w) s

-- it has each of these
abbrev pub AreHad : Style → Bool → List Item → Type 0
AreHad w first [] = Unit {0}
AreHad w first (x ∷ xs) = IsHad w first x × AreHad w false xs

-- the component at this index is the first that it doesn't have
abbrev pub IsFirstUnlike : Style → Bool → List Item → ℕ → Type 0
IsFirstUnlike w first [] index = ⊥
IsFirstUnlike w first (x ∷ xs) index = (¬ (IsHad w first x) × (index ≡ 0)) ⊎ (IsHad w first x × ((rest : ℕ) × ((index ≡ rest + 1) × IsFirstUnlike w false xs rest)))

-- A path of the same style is the path itself. A path of another style has the same components by its own style's rules, and is written as that style writes them. The path then doesn't begin as one with a share on Windows.
abbrev pub IsRestyled : Style → Style → List ℕ → List ℕ → Type 0
IsRestyled from to path made = ((from ≡ to) × (made ≡ path)) ⊎ ((from ≢ to) × (¬ (BeginsAsShare from path) × ((items : List Item) × (AreComponents from path items × IsPathOf to items made))))

-- why there is no path of the style with these components; the first of two separators is at fault, since both begin a share
abbrev pub IsStyleFault : Style → Style → List ℕ → StyleError → Type 0
IsStyleFault from to path (error.Component index) = (from ≢ to) × ((BeginsAsShare from path × (index ≡ 0)) ⊎ (¬ (BeginsAsShare from path) × ((items : List Item) × (AreComponents from path items × IsFirstUnlike to true items index))))
IsStyleFault from to path error.Memory = Unit {0}
