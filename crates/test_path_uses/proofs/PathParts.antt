-- What the contracts of paths say together.
use Rattle.std.proofs.Common.{◌≡◌, ◌<◌, inl, inr, Bool, true, false, ℕ, List, [], ◌∷◌, ◌++◌, length, Option, Some, None, MatchOption, refl, sym, ap, ◌∙◌, subst, take, drop, append-nil}
use Rattle.std.specs.Prelude.{IfSome, is_some}
use Rattle.std.proofs.lemmas.List.{same_from_push, take_at}
use Rattle.path_rules.specs.Cut.{IsAsciiCut}
use Rattle.path_rules.specs.declared.rules.Style.{Style}
use Rattle.std.specs.List.{flat_map}
use Rattle.std.specs.Option.{option_map}
use Rattle.platform_str.specs.declared.platform.Platform.{Ghosts}
use Rattle.platform_str.specs.declared.path.Path.{Path}
use Rattle.platform_str.specs.Strings.{path_bytes}
use Rattle.path_rules.specs.Component.{Item, Prefix, RootDir, CurDir, ParentDir, Normal}
use Rattle.path_rules.specs.Components.{AreComponents}
use Rattle.path_rules.specs.Parent.{IsTop, IsBelow, IsParent, HasNoParent, HasFileName, HasNoFileName}
use Rattle.path_rules.specs.Name.{IsExtension, IsStem}
use Rattle.os_path.specs.Ancestors.{IsNextParent, YieldsPath}
use Rattle.os_path.specs.Names.{HasFileStem, HasExtension}
use Rattle.os_path.specs.Divided.{AreParts}

push_some : (xs : List Item) (x : Item) → xs ++ x ∷ [] ≡ [] → ⊥
push_some [] x e = cc
push_some (y ∷ xs) x e = cc

-- the first item was taken, and then the last
pub ends_taken : {X : Type 0} (view : X → Item) (r q : Option X) (xs ys zs : List Item) (first : Item) (middle : List Item) (last : Item)
    → MatchOption r ((xs ≡ []) × (ys ≡ [])) (λ x. xs ≡ view x ∷ ys) → MatchOption q ((ys ≡ []) × (zs ≡ [])) (λ x. ys ≡ zs ++ view x ∷ [])
    → xs ≡ first ∷ (middle ++ last ∷ []) → zs ≡ middle
ends_taken view None q xs ys zs first middle last h k e = let never : [] ≡ first ∷ (middle ++ last ∷ []) = sym h.0 ∙ e in cc
ends_taken view (Some x) None xs ys zs first middle last h k e =
    let both : view x ∷ ys ≡ first ∷ (middle ++ last ∷ []) = sym h ∙ e in
    let rest : ys ≡ middle ++ last ∷ [] = cc in
    absurd (push_some middle last (sym rest ∙ k.0))
ends_taken view (Some x) (Some y) xs ys zs first middle last h k e =
    let both : view x ∷ ys ≡ first ∷ (middle ++ last ∷ []) = sym h ∙ e in
    let rest : ys ≡ middle ++ last ∷ [] = cc in
    (same_from_push zs middle (view y) last (sym k ∙ rest)).0

pub parent_items : (w : Style) (s t : List ℕ) → ((one other : List Item) → AreComponents w s one → AreComponents w s other → one ≡ other) → IsParent w s t
    → (items : List Item) (last : Item) → AreComponents w s (items ++ last ∷ []) → AreComponents w t items
parent_items w s t one h items last are = subst (AreComponents w t) ((same_from_push h.items items h.last last (one (h.items ++ h.last ∷ []) (items ++ last ∷ []) h.whole are)).0) h.are

module _ {X : Type 0} (view : X → List ℕ) (w : Style) (s : List ℕ) where
  pub all_but_last : ((one other : List Item) → AreComponents w s one → AreComponents w s other → one ≡ other) → (r : Option X) → MatchOption r (HasNoParent w s) (λ p. IsParent w s (view p))
      → IfSome r (λ p. (items : List Item) (last : Item) → AreComponents w s (items ++ last ∷ []) → AreComponents w (view p) items)
  all_but_last one None h = tt
  all_but_last one (Some x) h = parent_items w s (view x) one h

  pub is_below : ((one other : List Item) → AreComponents w s one → AreComponents w s other → one ≡ other) → (r : Option X) → MatchOption r (HasNoParent w s) (λ p. IsParent w s (view p))
      → IfSome r (λ p. (items : List Item) (last : Item) → AreComponents w s (items ++ last ∷ []) → IsBelow last)
  is_below one None h = tt
  is_below one (Some x) h = λ items last are.
      subst IsBelow ((same_from_push h.items items h.last last (one (h.items ++ h.last ∷ []) (items ++ last ∷ []) h.whole are)).1) h.below

  pub begins_with : (r : Option X) → MatchOption r (HasNoParent w s) (λ p. IsParent w s (view p)) → IfSome r (λ p. (after : List ℕ) × (s ≡ view p ++ after))
  begins_with None h = tt
  begins_with (Some x) h = (h.after, h.joined)

  pub is_shorter : ((parent : List ℕ) → IsParent w s parent → length parent < length s) → (r : Option X) → MatchOption r (HasNoParent w s) (λ p. IsParent w s (view p))
      → IfSome r (λ p. length (view p) < length s)
  is_shorter law None h = tt
  is_shorter law (Some x) h = law (view x) h

-- the last name where it is known
pub known_name : {X : Type 0} (view : X → List ℕ) (w : Style) (s : List ℕ) (r : Option X) → MatchOption r (HasNoFileName w s) (λ name. HasFileName w s (view name)) → (items : List Item) (name : List ℕ)
    → AreComponents w s (items ++ Normal name ∷ []) → option_map view r ≡ Some name
known_name view w s None h items name are = absurd (h (items ++ Normal name ∷ []) items name are refl)
known_name view w s (Some x) h items name are =
    let found = h (items ++ Normal name ∷ []) are in
    let same : Normal name ≡ Normal (view x) = (same_from_push items found.0 (Normal name) (Normal (view x)) found.1).1 in
    let is : view x ≡ name = cc in
    ap Some is

-- the stem of a name that has an extension
stem_is : (name stem other extension : List ℕ) → ((e : List ℕ) → IsExtension name stem e → stem ≡ other) → IsStem name stem → IsExtension name other extension → stem ≡ other
stem_is name stem other extension one (inl h) e = one h.0 h.1
stem_is name stem other extension one (inr h) e = absurd (h.0 other extension e)

pub whole_name : (w : Style) (s stem extension : List ℕ) → ((a b : List ℕ) → HasFileName w s a → HasFileName w s b → a ≡ b)
    → ((name a e b f : List ℕ) → IsExtension name a e → IsExtension name b f → a ≡ b) → HasFileStem w s stem → HasExtension w s extension → HasFileName w s (stem ++ 0x2E ∷ extension)
whole_name w s stem extension names extensions h k =
    let name = k.0 in
    let other = k.1.0 in
    let is = k.1.1.1 in
    let same : h.0 ≡ name = names h.0 name h.1.0 k.1.1.0 in
    let stems : stem ≡ other = stem_is name stem other extension (λ e a. extensions name stem e other extension a is) (subst (λ x. IsStem x stem) same h.1.1) is in
    subst (HasFileName w s) (is.joined ∙ ap (λ x. x ++ 0x2E ∷ extension) (sym stems)) k.1.1.0

-- the units of a parent begin the path's
module _ {X : Type 0} (view : X → List ℕ) (w : Style) (s : List ℕ) (units : List ℕ → List ℕ)
    (cut : (before after : List ℕ) → s ≡ before ++ after → IsAsciiCut before after → units s ≡ units (take (length before) s) ++ units (drop (length before) s)) where
  pub begins_with_units : (r : Option X) → MatchOption r (HasNoParent w s) (λ p. IsParent w s (view p)) → IfSome r (λ p. (rest : List ℕ) × (units s ≡ units (view p) ++ rest))
  begins_with_units None h = tt
  begins_with_units (Some x) h =
      let n = length (view x) in
      let prefix : take n s ≡ view x = ap (take n) h.joined ∙ take_at (view x) h.after n refl in
      (units (drop n s), cut (view x) h.after h.joined h.cut ∙ ap (λ y. units y ++ units (drop n s)) prefix)

not_both : (x : Item) → IsTop x → IsBelow x → ⊥
not_both (Prefix s) t b = b
not_both RootDir t b = b
not_both CurDir t b = t
not_both ParentDir t b = t
not_both (Normal s) t b = t

-- a path that has a parent
pub has_parent : {X : Type 0} (view : X → List ℕ) (w : Style) (s : List ℕ) (r : Option X) → MatchOption r (HasNoParent w s) (λ p. IsParent w s (view p)) → (items : List Item) (last : Item)
    → AreComponents w s (items ++ last ∷ []) → IsBelow last → is_some r ≡ true
has_parent view w s None h items last are below = absurd (not_both last (h items last are) below)
has_parent view w s (Some x) h items last are below = refl

-- the same of a path that may be changed
pub takes_last : (w : Style) (s : List ℕ) (b : Bool) → (b ≡ false → HasNoParent w s) → (items : List Item) (last : Item) → AreComponents w s (items ++ last ∷ []) → IsBelow last → b ≡ true
takes_last w s true h items last are below = refl
takes_last w s false h items last are below = absurd (not_both last (h refl items last are) below)

-- the first two of a path's ancestors
module _ {E : Type 0} {P : Ghosts E} (w : Style) (s : List ℕ) where
  pub first_ancestor : (r : Option (Path E P)) (old new : Option (List ℕ)) → old ≡ Some s → YieldsPath w old r new → option_map path_bytes r ≡ Some s
  first_ancestor None old new e h = let never : None ≡ Some s = sym h.0 ∙ e in cc
  first_ancestor (Some p) old new e h = sym h.0 ∙ e

  pub second_ancestor : (r q : Option (Path E P)) (old new last : Option (List ℕ)) → old ≡ Some s → YieldsPath w old r new → YieldsPath w new q last
      → MatchOption q (HasNoParent w s) (λ p. IsParent w s (path_bytes p))
  second_ancestor None q old new last e h k = let never : None ≡ Some s = sym h.0 ∙ e in cc
  second_ancestor (Some p) None old new last e h k =
      let both : Some (path_bytes p) ≡ Some s = sym h.0 ∙ e in
      let is : path_bytes p ≡ s = cc in
      subst (HasNoParent w) is (subst (IsNextParent w (path_bytes p)) k.0 h.1)
  second_ancestor (Some p) (Some q) old new last e h k =
      let both : Some (path_bytes p) ≡ Some s = sym h.0 ∙ e in
      let is : path_bytes p ≡ s = cc in
      subst (λ x. IsParent w x (path_bytes q)) is (subst (IsNextParent w (path_bytes p)) k.0 h.1)

-- the units of a path that is a name alone, and what comes after the name
pub around_name : (w : Style) (units : List ℕ → List ℕ) (path name : List ℕ) → (parts : List (List ℕ)) × AreParts w units path (Normal name ∷ []) parts → (after : List ℕ) × (units path ≡ units [] ++ (units name ++ units after))
around_name w units path name (parts, h) =
    let turns = h.turns in
    let later = turns.1.1.1.1.1 in
    let last = later.0 in
    let are : parts ≡ [] ∷ name ∷ last ∷ [] = turns.1.1.1.1.0 ∙ ap (λ x. x ∷ name ∷ turns.1.0) turns.1.1.1.0 ∙ ap (λ x. [] ∷ name ∷ x) later.1.1.1 in
    (last, h.in_units ∙ ap (flat_map units) are ∙ ap (λ x. units [] ++ (units name ++ x)) (append-nil (units last)))
