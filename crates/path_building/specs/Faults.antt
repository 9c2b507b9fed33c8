-- Why a path is no base, and why a path isn't joined to one.
use Rattle.std.specs.Prelude.{◌≡◌, ℕ, List, [], ◌∷◌, ◌++◌, length}
use Rattle.std.specs.List.{AllByRecursion}
use Rattle.path_rules.specs.declared.rules.Style as whose
use Rattle.path_rules.specs.declared.rules.Style.TheVariants as style
use Rattle.path_rules.specs.StyleRules.{rules_of_style}
use Rattle.path_rules.specs.Component.{Item, ParentDir}
use Rattle.path_rules.specs.Components.{AreComponents}
use Rattle.path_rules.specs.Prefix.{IsPrefixed}
use Rattle.path_rules.specs.Root.{BeginsWithSeparator}
use Rattle.path_building.specs.declared.base.BaseError.{BaseError}
use Rattle.path_building.specs.declared.base.BaseError.TheVariants as base_error
use Rattle.path_building.specs.declared.walk.NameError.{NameError}
use Rattle.path_building.specs.declared.walk.NameError.TheVariants as error
use Rattle.path_building.specs.declared.checked.JoinError.{JoinError}
use Rattle.path_building.specs.declared.checked.JoinError.TheVariants as join
use Rattle.path_building.specs.Base.{HasNoNul, IsFirstNul, LacksPart, HasReservedName, IsFree, IsBase}
use Rattle.path_building.specs.Checked.{NamesNoStream}
use Rattle.path_building.specs.Join.{IsRelativeTo, without_dot}
use Rattle.path_building.specs.Normal.{AreNormalOf}

-- why the path is no base
abbrev pub IsBaseFault : whose.Style → List ℕ → BaseError → Type 0
IsBaseFault w base (base_error.Nul index) = IsFirstNul base index
IsBaseFault w base base_error.Incomplete = HasNoNul base × LacksPart w base
IsBaseFault w base base_error.Reserved = HasNoNul base × (¬ (LacksPart w base) × HasReservedName w base)

-- on Windows a name has no colon
abbrev pub HasNoStream : whose.Style → Item → Type 0
HasNoStream style.Unix x = Unit {0}
HasNoStream style.Windows x = NamesNoStream x

-- and isn't reserved
abbrev pub IsFreeOn : whose.Style → Item → Type 0
IsFreeOn style.Unix x = Unit {0}
IsFreeOn style.Windows x = IsFree x

-- a component that may be below a base
abbrev pub IsFit : whose.Style → Item → Type 0
IsFit w x = HasNoStream w x × IsFreeOn w x

-- what a component after names is at fault for: a `..` with no name to take, a name with a colon, or one without that is reserved
abbrev pub Leaves : List Item → Item → Type 0
Leaves names x = (names ≡ []) × (x ≡ ParentDir)

abbrev pub IsStream : whose.Style → List Item → Item → Type 0
IsStream w names x = ¬ (HasNoStream w x)

abbrev pub IsReservedName : whose.Style → List Item → Item → Type 0
IsReservedName w names x = HasNoStream w x × ¬ (IsFreeOn w x)

-- the component at the index is the first at fault: those before it are fit and lead to names, and it is at fault after these
pub record IsFirstFault (w : whose.Style) (items : List Item) (index : ℕ) (IsFault : List Item → Item → Type 0) : Type 0 where
  pub front : List Item
  pub item : Item
  pub behind : List Item
  pub normal : List Item
  pub joined : items ≡ front ++ item ∷ behind
  pub at : index ≡ length front
  pub fit : AllByRecursion (IsFit w) front
  pub form : AreNormalOf front normal
  pub fault : IsFault (without_dot normal) item

-- a relative path without NUL, of whose components the one at the index is the first at fault
pub record HasFault (w : whose.Style) (path : List ℕ) (index : ℕ) (IsFault : List Item → Item → Type 0) : Type 0 where
  pub no_nul : HasNoNul path
  pub relative : IsRelativeTo w path
  pub items : List Item
  pub are : AreComponents w path items
  pub first : IsFirstFault w items index IsFault

-- why the path isn't joined to a base
abbrev pub IsNameFault : whose.Style → List ℕ → NameError → Type 0
IsNameFault w path (error.Nul index) = IsFirstNul path index
IsNameFault w path error.Prefix = HasNoNul path × IsPrefixed w path
IsNameFault w path error.Root = HasNoNul path × (¬ (IsPrefixed w path) × BeginsWithSeparator (rules_of_style w) path)
IsNameFault w path (error.Leaves index) = HasFault w path index Leaves
IsNameFault w path (error.Stream index) = HasFault w path index (IsStream w)
IsNameFault w path (error.Reserved index) = HasFault w path index (IsReservedName w)
IsNameFault w path error.Memory = Unit {0}

-- the base is none, or the path isn't joined to it
abbrev pub IsJoinFault : whose.Style → List ℕ → List ℕ → JoinError → Type 0
IsJoinFault w base path (join.Base fault) = IsBaseFault w base fault
IsJoinFault w base path (join.Name fault) = IsBase w base × IsNameFault w path fault
