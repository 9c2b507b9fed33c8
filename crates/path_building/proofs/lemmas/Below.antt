-- The normal form of a path below a base.
use Rattle.std.proofs.Common.{◌≡◌, inl, inr, ℕ, List, [], ◌∷◌, ◌++◌, reverse, refl, sym, ap, ◌∙◌, subst}
use Rattle.std.proofs.lemmas.List.{reverse-append, reverse-reverse}
use Rattle.path_rules.specs.declared.rules.Style.{Style}
use Rattle.path_rules.specs.Component.{Item, Prefix, RootDir, CurDir, ParentDir, Normal}
use Rattle.path_rules.specs.Components.{AreComponents}
use Rattle.path_building.specs.Normal.{AreNames, LeadsTo, name}
use Rattle.path_building.specs.Normalized.{AreVerbatim, IsNormalForm}
use Rattle.path_building.specs.Base.{own_root}
use Rattle.path_building.specs.Checked.{IsCheckedJoin, BeginsBelow}
use Rattle.path_building.proofs.lemmas.Bases.{own_root_or}
use Rattle.path_building.proofs.lemmas.Checks.{reverse_names}
use Rattle.path_rules.proofs.lemmas.OneList.{one_components}

-- names lead on from where the components before them led
record LedOn (ns xs zs : List Item) : Type 0 where
  left : List Item
  leads : LeadsTo xs left
  is : zs ≡ ns ++ left

led_on : (ns xs zs : List Item) → AreNames ns → LeadsTo (ns ++ xs) zs → LedOn ns xs zs
led_on [] xs zs n h = record { left = zs; leads = h; is = refl }
led_on (Prefix s ∷ ns) xs zs n h = absurd n
led_on (RootDir ∷ ns) xs zs n h = absurd n
led_on (CurDir ∷ ns) xs zs n h = absurd n
led_on (ParentDir ∷ ns) xs zs n h = absurd n
led_on (Normal s ∷ ns) xs zs n (name {ys = ys} h) = let q = led_on ns xs ys n h in record { left = q.left; leads = q.leads; is = ap (λ z. Normal s ∷ z) q.is }

lead_on : (ns xs ys : List Item) → AreNames ns → LeadsTo xs ys → LeadsTo (ns ++ xs) (ns ++ ys)
lead_on [] xs ys n h = h
lead_on (Prefix s ∷ ns) xs ys n h = absurd n
lead_on (RootDir ∷ ns) xs ys n h = absurd n
lead_on (CurDir ∷ ns) xs ys n h = absurd n
lead_on (ParentDir ∷ ns) xs ys n h = absurd n
lead_on (Normal s ∷ ns) xs ys n h = name (lead_on ns xs ys n h)

-- names after components make none of them verbatim
verbatim_before : (xs ns : List Item) → AreNames ns → AreVerbatim (xs ++ ns) → AreVerbatim xs
verbatim_before [] [] n v = v
verbatim_before [] (Prefix s ∷ ns) n v = absurd n
verbatim_before [] (RootDir ∷ ns) n v = v
verbatim_before [] (CurDir ∷ ns) n v = v
verbatim_before [] (ParentDir ∷ ns) n v = v
verbatim_before [] (Normal s ∷ ns) n v = v
verbatim_before (Prefix s ∷ xs) ns n v = v
verbatim_before (RootDir ∷ xs) ns n v = v
verbatim_before (CurDir ∷ xs) ns n v = v
verbatim_before (ParentDir ∷ xs) ns n v = v
verbatim_before (Normal s ∷ xs) ns n v = v

verbatim_after : (xs ns : List Item) → AreVerbatim xs → AreVerbatim (xs ++ ns)
verbatim_after [] ns v = absurd v
verbatim_after (Prefix s ∷ xs) ns v = v
verbatim_after (RootDir ∷ xs) ns v = v
verbatim_after (CurDir ∷ xs) ns v = v
verbatim_after (ParentDir ∷ xs) ns v = v
verbatim_after (Normal s ∷ xs) ns v = v

-- names after the components of a path that isn't verbatim
plain_below : (xs ns normal : List Item) → own_root xs ≡ [] → AreNames ns → IsNormalForm (xs ++ ns) normal → BeginsBelow xs normal
plain_below xs ns normal o n (inl h) = record { base = xs; names = ns; form = inl (verbatim_before xs ns n h.0, refl); alone = n; is = h.1 ∙ ap (λ z. xs ++ (z ++ ns)) (sym o) }
plain_below xs ns normal o n (inr h) =
    let q = led_on (reverse ns) (reverse xs) (reverse normal) (reverse_names ns n) (subst (λ z. LeadsTo z (reverse normal)) (reverse-append xs ns) h.1) in
    record {
      base = reverse q.left;
      names = ns;
      form = inr (λ v. h.0 (verbatim_after xs ns v), subst (LeadsTo (reverse xs)) (sym (reverse-reverse q.left)) q.leads);
      alone = n;
      is = sym (reverse-reverse normal) ∙ ap reverse q.is ∙ reverse-append (reverse ns) q.left ∙ ap (λ z. reverse q.left ++ z) (reverse-reverse ns) ∙ ap (λ z. reverse q.left ++ (z ++ ns)) (sym o);
    }

-- after those of one that is, also after its root
verbatim_below : (xs ns normal : List Item) → AreVerbatim xs → AreNames ns → IsNormalForm (xs ++ (own_root xs ++ ns)) normal → BeginsBelow xs normal
verbatim_below xs ns normal v n (inl h) = record { base = xs; names = ns; form = inl (v, refl); alone = n; is = h.1 }
verbatim_below xs ns normal v n (inr h) = absurd (h.0 (verbatim_after xs (own_root xs ++ ns) v))

form_below : (xs ns normal : List Item) → AreNames ns → IsNormalForm (xs ++ (own_root xs ++ ns)) normal → BeginsBelow xs normal
form_below xs ns normal n h = elim (own_root_or xs) [
  | inl o ↦ plain_below xs ns normal o n (subst (λ z. IsNormalForm (xs ++ (z ++ ns)) normal) o h)
  | inr v ↦ verbatim_below xs ns normal v n h
]

plain_after : (xs ns left : List Item) → AreNames ns → IsNormalForm xs left → IsNormalForm (xs ++ ns) (left ++ ns)
plain_after xs ns left n (inl h) = inl (verbatim_after xs ns h.0, ap (λ z. z ++ ns) h.1)
plain_after xs ns left n (inr h) = inr (
  λ v. h.0 (verbatim_before xs ns n v),
  subst (λ z. LeadsTo z (reverse (left ++ ns))) (sym (reverse-append xs ns)) (subst (LeadsTo (reverse ns ++ reverse xs)) (sym (reverse-append left ns)) (lead_on (reverse ns) (reverse xs) (reverse left) (reverse_names ns n) h.1)),
)

form_after : (xs ns left : List Item) → AreNames ns → IsNormalForm xs left → IsNormalForm (xs ++ (own_root xs ++ ns)) (left ++ (own_root xs ++ ns))
form_after xs ns left n h = elim (own_root_or xs) [
  | inl o ↦ subst (λ z. IsNormalForm (xs ++ (z ++ ns)) (left ++ (z ++ ns))) (sym o) (plain_after xs ns left n h)
  | inr v ↦ verbatim_case v h
]
  where
    verbatim_case : AreVerbatim xs → IsNormalForm xs left → IsNormalForm (xs ++ (own_root xs ++ ns)) (left ++ (own_root xs ++ ns))
    verbatim_case v (inl k) = inl (verbatim_after xs (own_root xs ++ ns) v, ap (λ z. z ++ (own_root xs ++ ns)) k.1)
    verbatim_case v (inr k) = absurd (k.0 v)

pub begins_below : (w : Style) (base path joined : List ℕ) → IsCheckedJoin w base path joined → (items more normal : List Item) → AreComponents w base items → AreComponents w joined more → IsNormalForm more normal → BeginsBelow items normal
begins_below w base path joined h items more normal a b f =
    let first : items ≡ h.base_items = one_components w base items h.base_items a h.base_are in
    let second : more ≡ h.base_items ++ (own_root h.base_items ++ h.names) = one_components w joined more (h.base_items ++ (own_root h.base_items ++ h.names)) b h.answers.0 in
    form_below items h.names normal h.checked.inside.alone (subst (λ z. IsNormalForm z normal) (second ∙ ap (λ z. z ++ (own_root z ++ h.names)) (sym first)) f)

pub stays_below : (w : Style) (base path joined : List ℕ) → IsCheckedJoin w base path joined → (items more left : List Item) → AreComponents w base items → AreComponents w joined more → IsNormalForm items left → (names : List Item) × IsNormalForm more (left ++ names)
stays_below w base path joined h items more left a b f =
    let first : items ≡ h.base_items = one_components w base items h.base_items a h.base_are in
    let second : more ≡ h.base_items ++ (own_root h.base_items ++ h.names) = one_components w joined more (h.base_items ++ (own_root h.base_items ++ h.names)) b h.answers.0 in
    let names = own_root items ++ h.names in
    (names, subst (λ z. IsNormalForm z (left ++ names)) (ap (λ z. z ++ (own_root z ++ h.names)) first ∙ sym second) (form_after items h.names left h.checked.inside.alone f))
