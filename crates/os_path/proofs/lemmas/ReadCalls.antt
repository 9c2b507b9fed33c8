-- Components as strings, reserved names and comparisons.
use Rattle.std.proofs.Common.{◌≡◌, ◌↔◌, ℕ, Bool, List, [], ◌∷◌, ◌++◌, refl, sym, ap, ◌∙◌, subst, IsTrue}
use Rattle.std.specs.Prelude.{map}
use Rattle.std.proofs.lemmas.List.{map-append}
use Rattle.path_rules.specs.declared.rules.Style.{Style}
use Rattle.path_rules.specs.declared.rules.Style.TheVariants as style
use Rattle.platform_str.specs.declared.platform.Platform.{Ghosts}
use Rattle.platform_str.specs.declared.os_str.OsStr.{OsStr}
use Rattle.path_rules.specs.declared.component.Component.{Component}
use Rattle.path_rules.specs.declared.component.Component.TheVariants as component
use Rattle.path_rules.specs.Component.{Item}
use Rattle.path_rules.specs.Components.{AreComponents}
use Rattle.path_rules.proofs.lemmas.OneList.{one_components}
use Rattle.os_path.specs.Reserved.{HasReservedItem, IsReservedPath}
use Rattle.path_building.specs.Collected.{string_of}
use Rattle.os_path.specs.Views.{os_item_of}

-- a path has a reserved name where one of its components is one
pub reserved_from : (path : List ℕ) (items : List Item) (b : Bool) → AreComponents style.Windows path items → IsTrue b ↔ HasReservedItem items → IsTrue b ↔ IsReservedPath style.Windows path
reserved_from path items b are h = (λ t. (items, (are, h.0 t)), λ r. h.1 (subst HasReservedItem (one_components style.Windows path r.0 items r.1.0 are) r.1.1))

-- the first and the last string of components
module _ (string : Item → List ℕ) where
  pub none_left : (xs : List Item) → xs ≡ [] → map string xs ≡ []
  none_left xs e = ap (map string) e

  pub first_string : (x : Item) (s : List ℕ) (xs ys : List Item) → xs ≡ x ∷ ys → s ≡ string x → map string xs ≡ s ∷ map string ys
  first_string x s xs ys e f = ap (map string) e ∙ ap (λ z. z ∷ map string ys) (sym f)

  pub last_string : (x : Item) (s : List ℕ) (xs ys : List Item) → xs ≡ ys ++ x ∷ [] → s ≡ string x → map string xs ≡ map string ys ++ s ∷ []
  last_string x s xs ys e f = ap (map string) e ∙ map-append string ys (x ∷ []) ∙ ap (λ z. map string ys ++ z ∷ []) (sym f)

-- a component that is none of the others is `..`
pub parent_string : {E : Type 0} {P : Ghosts E} (w : Style) (x : Component (OsStr E P)) → ((s : OsStr E P) → x ≡ component.Normal s → ⊥) → ((s : OsStr E P) → x ≡ component.Prefix s → ⊥) → (x ≡ component.RootDir → ⊥) → (x ≡ component.CurDir → ⊥) → 0x2E ∷ 0x2E ∷ [] ≡ string_of w (os_item_of x)
parent_string w (component.Prefix s) n p r d = absurd (p s refl)
parent_string w component.RootDir n p r d = absurd (r refl)
parent_string w component.CurDir n p r d = absurd (d refl)
parent_string w component.ParentDir n p r d = refl
parent_string w (component.Normal s) n p r d = absurd (n s refl)
