-- Components compared one by one.
use Rattle.std.proofs.Common.{◌≡◌, ◌↔◌, ℕ, List, [], ◌∷◌, ◌++◌, sym, ap, ◌∙◌, subst, refl}
use Rattle.std.specs.Prelude.{reverse}
use Rattle.std.proofs.lemmas.List.{reverse-append}
use Rattle.path_rules.specs.declared.rules.Style.{Style}
use Rattle.path_rules.specs.Component.{Item, Prefix, RootDir, CurDir, ParentDir, Normal}
use Rattle.path_rules.specs.Components.{AreComponents, AreUnixComponents}
use Rattle.path_rules.specs.Prefix.{Kind, IsPrefixOf}
use Rattle.path_rules.specs.Compare.{AreAlikePrefixes, AreAlike, StartsAlike, EndsAlike, StartsWith, EndsWith, AreAllAlike, IsNoPrefix}
use Rattle.path_rules.proofs.lemmas.OneList.{one_prefix, one_components}
use Rattle.std.specs.List.{AllByRecursion}
use Rattle.path_rules.specs.declared.rules.Rules.TheVariants as rules
use Rattle.path_rules.proofs.lemmas.Begins.{no_prefix_items}

-- the first of each are alike, so the rests decide
pub step : (xs ys us vs : List Item) (x y : Item) → xs ≡ x ∷ us → ys ≡ y ∷ vs → AreAlike x y → StartsAlike xs ys ↔ StartsAlike us vs
step xs ys us vs x y e f h =
    (λ s. (subst (StartsAlike (x ∷ us)) f (subst (λ z. StartsAlike z ys) e s)).1, λ s. subst (λ z. StartsAlike z ys) (sym e) (subst (StartsAlike (x ∷ us)) (sym f) (h, s)))

pub unlike : (xs ys us vs : List Item) (x y : Item) → xs ≡ x ∷ us → ys ≡ y ∷ vs → (AreAlike x y → ⊥) → StartsAlike xs ys → ⊥
unlike xs ys us vs x y e f h s = h ((subst (StartsAlike (x ∷ us)) f (subst (λ z. StartsAlike z ys) e s)).0)

pub all_matched : (xs ys : List Item) → ys ≡ [] → StartsAlike xs ys
all_matched xs ys e = subst (StartsAlike xs) (sym e) tt

pub too_short : (xs ys vs : List Item) (y : Item) → xs ≡ [] → ys ≡ y ∷ vs → StartsAlike xs ys → ⊥
too_short xs ys vs y e f s = subst (StartsAlike []) f (subst (λ z. StartsAlike z ys) e s)

-- a list by its last item, turned around
pub turned : (xs us : List Item) (x : Item) → xs ≡ us ++ x ∷ [] → reverse xs ≡ x ∷ reverse us
turned xs us x e = ap reverse e ∙ reverse-append us (x ∷ [])

pub and_then : {P Q R : Type 0} → P ↔ Q → Q ↔ R → P ↔ R
and_then a b = (λ p. b.0 (a.0 p), λ r. a.1 (b.1 r))

pub starts_from : (w : Style) (path base : List ℕ) (xs ys : List Item) → AreComponents w path xs → AreComponents w base ys → StartsWith w path base ↔ StartsAlike xs ys
starts_from w path base xs ys a b = (
  λ h. subst (λ z. StartsAlike z ys) (one_components w path h.items xs h.are a) (subst (StartsAlike h.items) (one_components w base h.base_items ys h.base_are b) h.alike),
  λ s. record { items = xs; base_items = ys; are = a; base_are = b; alike = s },
)

pub ends_from : (w : Style) (path child : List ℕ) (xs ys : List Item) → AreComponents w path xs → AreComponents w child ys → EndsWith w path child ↔ EndsAlike xs ys
ends_from w path child xs ys a b = (
  λ h. subst (λ z. EndsAlike z ys) (one_components w path h.items xs h.are a) (subst (EndsAlike h.items) (one_components w child h.child_items ys h.child_are b) h.alike),
  λ s. record { items = xs; child_items = ys; are = a; child_are = b; alike = s },
)

pub alike_kinds : (s t : List ℕ) (k l : Kind) (u v : List ℕ) → IsPrefixOf s k u → IsPrefixOf t l v → AreAlikePrefixes s t ↔ (k ≡ l)
alike_kinds s t k l u v a b = (
  λ h. (one_prefix s k h.kind u h.after_first a h.first).0 ∙ (one_prefix t h.kind l h.after_second v h.second b).0,
  λ e. record { kind = l; after_first = u; after_second = v; first = subst (λ x. IsPrefixOf s x u) e a; second = b },
)

pub swapped : {P Q : Type 0} → P ↔ Q → Q ↔ P
swapped a = (a.1, a.0)

pub alike_itself : (x : Item) → IsNoPrefix x → AreAlike x x
alike_itself (Prefix s) n = absurd n
alike_itself RootDir n = tt
alike_itself CurDir n = tt
alike_itself ParentDir n = tt
alike_itself (Normal s) n = refl

pub all_itself : (xs : List Item) → AllByRecursion IsNoPrefix xs → AreAllAlike xs xs
all_itself [] n = tt
all_itself (x ∷ xs) n = (alike_itself x n.0, all_itself xs n.1)

-- but for prefixes, what is alike is the same
pub alike_same : (x y : Item) → IsNoPrefix x → AreAlike x y → x ≡ y
alike_same (Prefix s) y n h = absurd n
alike_same RootDir (Prefix s) n h = absurd h
alike_same RootDir RootDir n h = refl
alike_same RootDir CurDir n h = absurd h
alike_same RootDir ParentDir n h = absurd h
alike_same RootDir (Normal s) n h = absurd h
alike_same CurDir (Prefix s) n h = absurd h
alike_same CurDir RootDir n h = absurd h
alike_same CurDir CurDir n h = refl
alike_same CurDir ParentDir n h = absurd h
alike_same CurDir (Normal s) n h = absurd h
alike_same ParentDir (Prefix s) n h = absurd h
alike_same ParentDir RootDir n h = absurd h
alike_same ParentDir CurDir n h = absurd h
alike_same ParentDir ParentDir n h = refl
alike_same ParentDir (Normal s) n h = absurd h
alike_same (Normal t) (Prefix s) n h = absurd h
alike_same (Normal t) RootDir n h = absurd h
alike_same (Normal t) CurDir n h = absurd h
alike_same (Normal t) ParentDir n h = absurd h
alike_same (Normal t) (Normal s) n h = ap Normal h

pub all_same : (xs ys : List Item) → AllByRecursion IsNoPrefix xs → AreAllAlike xs ys → xs ≡ ys
all_same [] [] n h = refl
all_same [] (y ∷ ys) n h = absurd h
all_same (x ∷ xs) [] n h = absurd h
all_same (x ∷ xs) (y ∷ ys) n h = ap (λ z. z ∷ xs) (alike_same x y n.0 h.0) ∙ ap (λ z. y ∷ z) (all_same xs ys n.1 h.1)

-- without prefixes the first components are the same
starts_same : (xs ys : List Item) → AllByRecursion IsNoPrefix xs → StartsAlike xs ys → (more : List Item) × (xs ≡ ys ++ more)
starts_same xs [] n h = (xs, refl)
starts_same [] (y ∷ ys) n h = absurd h
starts_same (x ∷ xs) (y ∷ ys) n h =
    let rest = starts_same xs ys n.1 h.1 in
    (rest.0, ap (λ z. z ∷ xs) (alike_same x y n.0 h.0) ∙ ap (λ z. y ∷ z) (rest.1))

starts_itself : (ys more : List Item) → AllByRecursion IsNoPrefix (ys ++ more) → StartsAlike (ys ++ more) ys
starts_itself [] more n = tt
starts_itself (y ∷ ys) more n = (alike_itself y n.0, starts_itself ys more n.1)

pub unix_starts : (path : List ℕ) (xs ys : List Item) → AreUnixComponents path xs → (StartsAlike xs ys → (more : List Item) × (xs ≡ ys ++ more)) × ((more : List Item) × (xs ≡ ys ++ more) → StartsAlike xs ys)
unix_starts path xs ys a =
    let n = subst (AllByRecursion IsNoPrefix) (sym a) (no_prefix_items rules.Slash path) in
    (starts_same xs ys n, λ h. subst (λ z. StartsAlike z ys) (sym (h.1)) (starts_itself ys (h.0) (subst (AllByRecursion IsNoPrefix) (h.1) n)))
