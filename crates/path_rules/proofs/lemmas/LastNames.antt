-- The last component where it is a name.
use Rattle.std.proofs.Common.{◌≡◌, ℕ, List, [], ◌∷◌, ◌++◌, Option, Some, None, MatchOption, refl, sym, ap, ◌∙◌, subst, arith, ◌<◌, length, length-append, append-nil}
use Rattle.std.proofs.lemmas.List.{same_from_push}
use Rattle.path_rules.specs.declared.rules.Style.{Style}
use Rattle.path_rules.specs.Component.{Item, Normal}
use Rattle.path_rules.specs.Components.{AreComponents}
use Rattle.path_rules.specs.Parent.{IsParent, HasFileName, HasNoFileName}
use Rattle.path_rules.proofs.lemmas.OneList.{one_components}

pub push_some : {X : Type 0} (xs : List X) (x : X) → xs ++ x ∷ [] ≡ [] → ⊥
push_some [] x e = cc
push_some (y ∷ xs) x e = cc

module _ (w : Style) (path : List ℕ) (items : List Item) (are : AreComponents w path items) where
  pub none_last : items ≡ [] → HasNoFileName w path
  none_last e others before name others_are f = push_some before (Normal name) (sym f ∙ one_components w path others items others_are are ∙ e)

  -- an option of a name, which view sees as bytes
  pub last_is : {X : Type 0} (view : X → List ℕ) (before : List Item) (item : Item) (r : Option X) → items ≡ before ++ item ∷ []
      → MatchOption r ((name : List ℕ) → ¬ (item ≡ Normal name)) (λ x. item ≡ Normal (view x)) → MatchOption r (HasNoFileName w path) (λ x. HasFileName w path (view x))
  last_is view before item (Some x) e h = λ others others_are. (before, one_components w path others items others_are are ∙ e ∙ ap (λ y. before ++ y ∷ []) h)
  last_is view before item None e h = λ others other name others_are f.
      h name ((same_from_push before other item (Normal name) (sym e ∙ one_components w path items others are others_are ∙ f)).1)

pub one_file_name : (w : Style) (path : List ℕ) (items : List Item) (a b : List ℕ) → AreComponents w path items → HasFileName w path a → HasFileName w path b → a ≡ b
one_file_name w path items a b are h k =
    let x = h items are in
    let y = k items are in
    let same : Normal a ≡ Normal b = (same_from_push x.0 y.0 (Normal a) (Normal b) (sym x.1 ∙ y.1)).1 in cc

-- the parent lacks a component, so it isn't the path
pub parent_is_shorter : (w : Style) (path parent : List ℕ) → IsParent w path parent → length parent < length path
parent_is_shorter w path parent p = shorter p.after refl
  where
    longer : (xs : List Item) (x : Item) → xs ≡ xs ++ x ∷ [] → ⊥
    longer xs x e = let l = ap length e in absurd (omega (arith, length-append xs (x ∷ [])))

    shorter : (after : List ℕ) → p.after ≡ after → length parent < length path
    shorter [] e =
        let same : path ≡ parent = p.joined ∙ ap (λ y. parent ++ y) e ∙ append-nil parent in
        absurd (longer p.items p.last (one_components w path p.items (p.items ++ p.last ∷ []) (subst (λ y. AreComponents w y p.items) (sym same) p.are) p.whole))
    shorter (b ∷ after) e = omega (arith, ap length (p.joined ∙ ap (λ y. parent ++ y) e), length-append parent (b ∷ after))
