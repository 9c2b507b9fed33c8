-- A path without its last component, and its last name (std's `Path::parent` and `Path::file_name`).
use Rattle.std.specs.Prelude.{◌≡◌, ◌⊎◌, ℕ, List, [], ◌∷◌, ◌++◌}
use Rattle.path_rules.specs.declared.rules.Style.{Style}
use Rattle.path_rules.specs.Component.{Item, Prefix, RootDir, CurDir, ParentDir, Normal}
use Rattle.path_rules.specs.Components.{AreComponents}
use Rattle.path_rules.specs.Cut.{IsAsciiCut}
use Rattle.path_rules.specs.Body.{EndsTight, HasBodyAfter}

-- a prefix or a root
abbrev pub IsTop : Item → Type 0
IsTop (Prefix s) = Unit {0}
IsTop RootDir = Unit {0}
IsTop CurDir = ⊥
IsTop ParentDir = ⊥
IsTop (Normal s) = ⊥

-- neither a prefix nor a root
abbrev pub IsBelow : Item → Type 0
IsBelow (Prefix s) = ⊥
IsBelow RootDir = ⊥
IsBelow CurDir = Unit {0}
IsBelow ParentDir = Unit {0}
IsBelow (Normal s) = Unit {0}

-- the path goes on where the parent ends, and has one component more, its last, which is neither a prefix nor a root. What comes after the parent is in the path's body, unless that component is `.` at the start
pub record IsParent (style : Style) (path parent : List ℕ) : Type 0 where
  pub after : List ℕ
  pub joined : path ≡ parent ++ after
  pub cut : IsAsciiCut parent after
  pub items : List Item
  pub last : Item
  pub are : AreComponents style parent items
  pub whole : AreComponents style path (items ++ last ∷ [])
  pub below : IsBelow last
  pub tight : EndsTight style parent
  pub within : HasBodyAfter style path parent after ⊎ ((items ≡ []) × (last ≡ CurDir))

-- the path has no component, or its last one is a prefix or a root
abbrev pub HasNoParent : Style → List ℕ → Type 0
HasNoParent style path = (items : List Item) (last : Item) → AreComponents style path (items ++ last ∷ []) → IsTop last

-- the last component of the path is this name
abbrev pub HasFileName : Style → List ℕ → List ℕ → Type 0
HasFileName style path name = (items : List Item) → AreComponents style path items → (before : List Item) × (items ≡ before ++ Normal name ∷ [])

-- the path has no component, or its last one is no name
abbrev pub HasNoFileName : Style → List ℕ → Type 0
HasNoFileName style path = (items before : List Item) (name : List ℕ) → AreComponents style path items → ¬ (items ≡ before ++ Normal name ∷ [])
