-- What is known of the common base of paths.
use Rattle.std.proofs.Common.{◌≡◌, ◌⊎◌, ◌↔◌, inl, inr, ◌+◌, ◌-◌, ◌≤◌, ℕ, List, [], ◌∷◌, ◌++◌, get_or, take, drop, length, map, refl, sym, ap, ◌∙◌, subst, append_assoc, append-nil, length-append, arith}
use Rattle.std.proofs.lemmas.List.{take_rest, same_from_push}
use Rattle.std.specs.List.{AllByRecursion}
use Rattle.path_rules.specs.declared.rules.Rules.{Rules}
use Rattle.path_rules.specs.declared.rules.Rules.TheVariants as rules
use Rattle.path_rules.specs.declared.rules.Style.{Style}
use Rattle.path_rules.specs.declared.rules.Style.TheVariants as style
use Rattle.path_rules.specs.declared.head.Start.{Start}
use Rattle.path_rules.specs.declared.head.Start.TheVariants.{Root, Dot, Nothing}
use Rattle.path_rules.specs.declared.head.Head.{Head}
use Rattle.path_rules.specs.Component.{Item, Prefix, RootDir, CurDir, ParentDir, Normal, components_in}
use Rattle.path_rules.specs.Components.{AreComponents, prefixed, bare, root_of, after_root, start_of, after_start}
use Rattle.path_rules.specs.Prefix.{rules_of}
use Rattle.path_rules.specs.Prefix.{IsPrefixOf}
use Rattle.path_rules.specs.Compare.{AreAlike, AreAllAlike, StartsAlike, StartsWith, IsNoPrefix}
use Rattle.path_rules.specs.Heads.{prefix_items, start_items, items_of}
use Rattle.path_rules.specs.Body.{IsEndTrimmed}
use Rattle.path_rules.specs.Parent.{IsTop, IsBelow, IsParent, HasNoParent}
use Rattle.path_rules.proofs.lemmas.OneList.{one_prefix, one_components}
use Rattle.path_rules.proofs.lemmas.OneParent.{last_of}
use Rattle.path_rules.proofs.lemmas.Alike.{starts_from, alike_same, alike_itself}
use Rattle.path_building.specs.Spelled.{IsSpelled, AreSpelled, cleaned_start}
use Rattle.path_building.specs.CommonBase as base
use Rattle.path_building.specs.CommonBase.{prefix_of, after_prefix, HaveOnePrefix, HaveOneRoot, BeginAlike, IsFront, whole, above, IsBaseOf, IsApart, IsFirstApart, HasItsTop, IsFrontBeside, PartsAt, IsShared}
use Rattle.path_building.specs.declared.common_bases.CommonBaseError.{CommonBaseError}
use Rattle.path_building.proofs.lemmas.Resolving.{no_prefix, no_root}
use Rattle.path_building.proofs.lemmas.Spelling.{body_spelled}

-- what a part names is neither a prefix nor a root
below : (r : Rules) (x : Item) → IsSpelled r x → IsBelow x
below r (Prefix s) h = no_prefix r s h
below r RootDir h = no_root r h
below r CurDir h = tt
below r ParentDir h = tt
below r (Normal s) h = tt

all_below : (r : Rules) (xs : List Item) → AreSpelled r xs → AllByRecursion IsBelow xs
all_below r [] h = tt
all_below r (x ∷ xs) h = (below r x h.0, all_below r xs h.1)

-- the components of a path: a prefix or none, a start, and what is below
data Shape : List Item → Type 0 where
  plain : (st : Start) (cs : List Item) → AllByRecursion IsBelow cs → Shape (start_items st ++ cs)
  after : (s : List ℕ) (st : Start) (cs : List Item) → AllByRecursion IsBelow cs → Shape (Prefix s ∷ (start_items st ++ cs))

shape : (w : Style) (path : List ℕ) (items : List Item) → AreComponents w path items → Shape items
shape style.Unix path items e =
    let body = after_start (start_of rules.Slash path) path in
    subst Shape (sym e) (plain (start_of rules.Slash path) (components_in rules.Slash body) (all_below rules.Slash (components_in rules.Slash body) (body_spelled rules.Slash body)))
shape style.Windows path items (prefixed a) =
    let r = rules_of a.kind in
    let body = after_root a.rest in
    subst Shape (sym a.are) (after a.raw (root_of a.kind a.rest) (components_in r body) (all_below r (components_in r body) (body_spelled r body)))
shape style.Windows path items (bare a) =
    let body = after_start (start_of rules.Either path) path in
    subst Shape (sym a.are) (plain (start_of rules.Either path) (components_in rules.Either body) (all_below rules.Either (components_in rules.Either body) (body_spelled rules.Either body)))

not_both : (x : Item) → IsBelow x → IsTop x → ⊥
not_both (Prefix s) b t = b
not_both RootDir b t = b
not_both CurDir b t = t
not_both ParentDir b t = t
not_both (Normal s) b t = t

-- none of what is below is the last of a list that ends in a prefix or a root
not_last : (cs xs : List Item) (x : Item) → AllByRecursion IsBelow cs → IsTop x → cs ≡ xs ++ x ∷ [] → ⊥
not_last [] [] x b t e = cc
not_last [] (y ∷ xs) x b t e = cc
not_last (c ∷ cs) [] x b t e = let same : c ≡ x = cc in not_both x (subst IsBelow same b.0) t
not_last (c ∷ cs) (y ∷ xs) x b t e = not_last cs xs x b.1 t cc

alone : (st : Start) (cs xs : List Item) (x : Item) → AllByRecursion IsBelow cs → IsTop x → start_items st ++ cs ≡ xs ++ x ∷ [] → xs ≡ []
alone Root cs [] x b t e = refl
alone Root cs (y ∷ xs) x b t e = absurd (not_last cs xs x b t cc)
alone Dot cs [] x b t e = refl
alone Dot cs (y ∷ xs) x b t e = absurd (not_last cs xs x b t cc)
alone Nothing cs xs x b t e = absurd (not_last cs xs x b t e)

all_top : (items xs : List Item) (x : Item) → Shape items → IsTop x → items ≡ xs ++ x ∷ [] → AllByRecursion IsTop xs
all_top items xs x (plain st cs b) t e = subst (AllByRecursion IsTop) (sym (alone st cs xs x b t e)) tt
all_top items [] x (after s st cs b) t e = tt
all_top items (y ∷ xs) x (after s st cs b) t e =
    let first : Prefix s ≡ y = cc in
    (subst IsTop first tt, subst (AllByRecursion IsTop) (sym (alone st cs xs x b t cc)) tt)

all_top_push : (xs : List Item) (x : Item) → AllByRecursion IsTop xs → IsTop x → AllByRecursion IsTop (xs ++ x ∷ [])
all_top_push [] x a t = (t, tt)
all_top_push (y ∷ xs) x a t = (a.0, all_top_push xs x a.1 t)

-- a path that has no parent is a prefix, a root, both or neither
tops : (w : Style) (path : List ℕ) (items : List Item) → AreComponents w path items → HasNoParent w path → AllByRecursion IsTop items
tops w path items are none = cases (last_of items)
  where
    cases : (items ≡ []) ⊎ ((ys : List Item) × ((x : Item) × (items ≡ ys ++ x ∷ []))) → AllByRecursion IsTop items
    cases (inl e) = subst (AllByRecursion IsTop) (sym e) tt
    cases (inr l) =
        let top = none l.0 l.1.0 (subst (AreComponents w path) l.1.1 are) in
        subst (AllByRecursion IsTop) (sym l.1.1) (all_top_push l.0 l.1.0 (all_top items l.0 l.1.0 (shape w path items are) top l.1.1) top)

-- such a front of a path is a front of its prefix and its root
root_front : (st : Start) (cs xs more : List Item) → AllByRecursion IsBelow cs → AllByRecursion IsTop xs → start_items st ++ cs ≡ xs ++ more → (rest : List Item) × (base.root_of (start_items st ++ cs) ≡ xs ++ rest)
root_front st cs [] more b t e = (base.root_of (start_items st ++ cs), refl)
root_front Root cs (x ∷ []) more b t e = ([], cc)
root_front Root [] (x ∷ y ∷ xs) more b t e = absurd cc
root_front Root (c ∷ cs) (x ∷ y ∷ xs) more b t e = let same : c ≡ y = cc in absurd (not_both y (subst IsBelow same b.0) t.1.0)
root_front Dot cs (x ∷ xs) more b t e = let same : CurDir ≡ x = cc in absurd (not_both x (subst IsBelow same tt) t.0)
root_front Nothing [] (x ∷ xs) more b t e = absurd cc
root_front Nothing (c ∷ cs) (x ∷ xs) more b t e = let same : c ≡ x = cc in absurd (not_both x (subst IsBelow same b.0) t.0)

-- components that don't begin with a prefix
no_prefix_first : (st : Start) (cs : List Item) → AllByRecursion IsBelow cs → (prefix_of (start_items st ++ cs) ≡ []) × (after_prefix (start_items st ++ cs) ≡ start_items st ++ cs)
no_prefix_first Root cs b = (refl, refl)
no_prefix_first Dot cs b = (refl, refl)
no_prefix_first Nothing [] b = (refl, refl)
no_prefix_first Nothing (Prefix s ∷ cs) b = absurd b.0
no_prefix_first Nothing (RootDir ∷ cs) b = absurd b.0
no_prefix_first Nothing (CurDir ∷ cs) b = (refl, refl)
no_prefix_first Nothing (ParentDir ∷ cs) b = (refl, refl)
no_prefix_first Nothing (Normal s ∷ cs) b = (refl, refl)

top_front : (items xs more : List Item) → Shape items → AllByRecursion IsTop xs → items ≡ xs ++ more → (rest : List Item) × (prefix_of items ++ base.root_of (after_prefix items) ≡ xs ++ rest)
top_front items xs more (plain st cs b) t e =
    let n = no_prefix_first st cs b in
    let found = root_front st cs xs more b t e in
    (found.0, ap (λ z. z ++ base.root_of (after_prefix (start_items st ++ cs))) n.0 ∙ ap base.root_of n.1 ∙ found.1)
top_front items [] more (after s st cs b) t e = (Prefix s ∷ base.root_of (start_items st ++ cs), refl)
top_front items (x ∷ xs) more (after s st cs b) t e =
    let found = root_front st cs xs more b t.1 cc in
    let first : Prefix s ≡ x = cc in
    (found.0, ap (λ z. z ∷ base.root_of (start_items st ++ cs)) first ∙ ap (λ z. x ∷ z) found.1)

-- components that begin with such a root start with each front of it
root_starts : (ys zs rest : List Item) → base.root_of ys ≡ zs ++ rest → StartsAlike ys zs
root_starts ys [] rest e = tt
root_starts [] (z ∷ zs) rest e = cc
root_starts (Prefix s ∷ ys) (z ∷ zs) rest e = cc
root_starts (RootDir ∷ ys) (z ∷ []) rest e = let same : RootDir ≡ z = cc in (subst (AreAlike RootDir) same tt, tt)
root_starts (RootDir ∷ ys) (z ∷ y ∷ zs) rest e = cc
root_starts (CurDir ∷ ys) (z ∷ zs) rest e = cc
root_starts (ParentDir ∷ ys) (z ∷ zs) rest e = cc
root_starts (Normal s ∷ ys) (z ∷ zs) rest e = cc

-- and after prefixes that are alike
parts_start : (ps qs ys zs rest : List Item) → AreAllAlike ps qs → qs ++ base.root_of ys ≡ zs ++ rest → StartsAlike (ps ++ ys) zs
parts_start ps qs ys [] rest a e = tt
parts_start [] [] ys (z ∷ zs) rest a e = root_starts ys (z ∷ zs) rest e
parts_start [] (q ∷ qs) ys (z ∷ zs) rest a e = absurd a
parts_start (p ∷ ps) [] ys (z ∷ zs) rest a e = absurd a
parts_start (p ∷ ps) (q ∷ qs) ys (z ∷ zs) rest a e = let same : q ≡ z = cc in (subst (AreAlike p) same a.0, parts_start ps qs ys zs rest a.1 cc)

by_parts : (ys : List Item) → prefix_of ys ++ after_prefix ys ≡ ys
by_parts [] = refl
by_parts (Prefix s ∷ ys) = refl
by_parts (RootDir ∷ ys) = refl
by_parts (CurDir ∷ ys) = refl
by_parts (ParentDir ∷ ys) = refl
by_parts (Normal s ∷ ys) = refl

-- a path that begins alike starts with each front that is a prefix, a root or both
starts_top : (w : Style) (path other : List ℕ) (xs more ys : List Item) → BeginAlike w path other → AreComponents w path (xs ++ more) → AllByRecursion IsTop xs → AreComponents w other ys → StartsAlike ys xs
starts_top w path other xs more ys h are t other_are =
    let items = xs ++ more in
    let p = h.0 in
    let r = h.1 in
    let alike = subst (λ z. AreAllAlike (prefix_of ys) (prefix_of z)) (one_components w path p.items items p.are are) (subst (λ z. AreAllAlike (prefix_of z) (prefix_of p.items)) (one_components w other p.other_items ys p.other_are other_are) p.alike) in
    let same : base.root_of (after_prefix ys) ≡ base.root_of (after_prefix items) = ap (λ z. base.root_of (after_prefix z)) (one_components w other ys r.other_items other_are r.other_are) ∙ r.same ∙ ap (λ z. base.root_of (after_prefix z)) (one_components w path r.items items r.are are) in
    let front = top_front items xs more (shape w path items are) t refl in
    subst (λ z. StartsAlike z xs) (by_parts ys) (parts_start (prefix_of ys) (prefix_of items) (after_prefix ys) xs front.0 alike (ap (λ z. prefix_of items ++ z) same ∙ front.1))

-- the components of a front are the first of the path's
pub front_items : (w : Style) (path front : List ℕ) → IsFront w path front → (items : List Item) × ((more : List Item) × (AreComponents w front items × AreComponents w path (items ++ more)))
front_items w path _ (whole front t) = (t.items, ([], (t.are, subst (AreComponents w path) (sym (append-nil t.items)) t.whole)))
front_items w path _ (above front lower f p) =
    let h = front_items w path lower f in
    let same : h.0 ≡ p.items ++ p.last ∷ [] = one_components w lower h.0 (p.items ++ p.last ∷ []) h.1.1.0 p.whole in
    (p.items, (p.last ∷ h.1.0, (p.are, subst (AreComponents w path) (ap (λ z. z ++ h.1.0) same ∙ append_assoc p.items (p.last ∷ []) h.1.0) h.1.1.1)))

pub has_its_top : (w : Style) (path other : List ℕ) → BeginAlike w path other → HasItsTop w path other
has_its_top w path other h top f none =
    let i = front_items w path top f in
    let t = tops w top i.0 i.1.1.0 none in
    (starts_from w other top h.0.other_items i.0 h.0.other_are i.1.1.0).1 (starts_top w path other i.0 i.1.0 h.0.other_items h i.1.1.1 t h.0.other_are)

-- what is alike a component that is no prefix is none
no_prefix_alike : (x z : Item) → IsNoPrefix z → AreAlike x z → IsNoPrefix x
no_prefix_alike (Prefix s) (Prefix t) n a = n
no_prefix_alike (Prefix s) RootDir n a = a
no_prefix_alike (Prefix s) CurDir n a = a
no_prefix_alike (Prefix s) ParentDir n a = a
no_prefix_alike (Prefix s) (Normal t) n a = a
no_prefix_alike RootDir z n a = tt
no_prefix_alike CurDir z n a = tt
no_prefix_alike ParentDir z n a = tt
no_prefix_alike (Normal s) z n a = tt

same_both : (x y z : Item) → IsNoPrefix z → AreAlike x z → AreAlike y z → AreAlike x y
same_both x y z n a b =
    let none = no_prefix_alike x z n a in
    subst (AreAlike x) (alike_same x z none a ∙ sym (alike_same y z (no_prefix_alike y z n b) b)) (alike_itself x none)

-- what is alike one component is alike
alike_both : (x y z : Item) → AreAlike x z → AreAlike y z → AreAlike x y
alike_both (Prefix s) (Prefix t) (Prefix u) a b = record {
  kind = b.kind;
  after_first = a.after_first;
  after_second = b.after_first;
  first = subst (λ k. IsPrefixOf s k a.after_first) (one_prefix u a.kind b.kind a.after_second b.after_second a.second b.second).0 a.first;
  second = b.first;
}
alike_both (Prefix s) RootDir (Prefix u) a b = absurd b
alike_both (Prefix s) CurDir (Prefix u) a b = absurd b
alike_both (Prefix s) ParentDir (Prefix u) a b = absurd b
alike_both (Prefix s) (Normal t) (Prefix u) a b = absurd b
alike_both RootDir y (Prefix u) a b = absurd a
alike_both CurDir y (Prefix u) a b = absurd a
alike_both ParentDir y (Prefix u) a b = absurd a
alike_both (Normal s) y (Prefix u) a b = absurd a
alike_both x y RootDir a b = same_both x y RootDir tt a b
alike_both x y CurDir a b = same_both x y CurDir tt a b
alike_both x y ParentDir a b = same_both x y ParentDir tt a b
alike_both x y (Normal u) a b = same_both x y (Normal u) tt a b

-- a list that starts with another starts with each front of it
pub starts_less : (zs xs ys : List Item) → StartsAlike zs (xs ++ ys) → StartsAlike zs xs
starts_less zs [] ys h = tt
starts_less [] (x ∷ xs) ys h = absurd h
starts_less (z ∷ zs) (x ∷ xs) ys h = (h.0, starts_less zs xs ys h.1)

-- what two lists start with is a front of the first, but for its last item, if the second doesn't start with all of it
starts_both : (xs : List Item) (x : Item) (ys zs : List Item) → (StartsAlike zs (xs ++ x ∷ []) → ⊥) → StartsAlike (xs ++ x ∷ []) ys → StartsAlike zs ys → StartsAlike xs ys
starts_both xs x [] zs n a b = tt
starts_both [] x (y ∷ ys) [] n a b = absurd b
starts_both [] x (y ∷ ys) (z ∷ zs) n a b = absurd (n (alike_both z x y b.0 a.0, tt))
starts_both (u ∷ xs) x (y ∷ ys) [] n a b = absurd b
starts_both (u ∷ xs) x (y ∷ ys) (z ∷ zs) n a b = (a.0, starts_both xs x ys zs (λ h. n (alike_both z u y b.0 a.0, h)) a.1 b.1)

-- what of the front of a base is known before it is one of the other path
pub record Sharing (w : Style) (base other shared : List ℕ) : Type 0 where
  pub front : (first : List ℕ) → IsFront w first base → IsFront w first shared
  pub keeps : (path : List ℕ) → StartsWith w path base → StartsWith w path shared
  pub longest : (path : List ℕ) → StartsWith w base path → StartsWith w other path → StartsWith w shared path

pub all_shared : (w : Style) (base other : List ℕ) → Sharing w base other base
all_shared w base other = record { front = λ first f. f; keeps = λ path h. h; longest = λ path h k. h }

pub less_shared : (w : Style) (base other shared above_it : List ℕ) → Sharing w base other shared → ¬ (StartsWith w other shared) → IsParent w shared above_it → Sharing w base other above_it
less_shared w base other shared above_it s n p = record {
  front = λ first f. above above_it shared (s.front first f) p;
  keeps = λ path h.
      let k = s.keeps path h in
      let a = (starts_from w path shared k.items (p.items ++ p.last ∷ []) k.are p.whole).0 k in
      (starts_from w path above_it k.items p.items k.are p.are).1 (starts_less k.items p.items (p.last ∷ []) a);
  longest = λ path h k.
      let l = s.longest path h k in
      let of_shared = (starts_from w shared path (p.items ++ p.last ∷ []) k.base_items p.whole k.base_are).0 l in
      let not_all : ¬ (StartsAlike k.items (p.items ++ p.last ∷ [])) = λ a. n ((starts_from w other shared k.items (p.items ++ p.last ∷ []) k.are p.whole).1 a) in
      (starts_from w above_it path p.items k.base_items p.are k.base_are).1 (starts_both p.items p.last k.base_items k.items not_all of_shared k.alike);
}

pub is_shared : (w : Style) (base other shared : List ℕ) → Sharing w base other shared → StartsWith w other shared → IsShared w base other shared
is_shared w base other shared s c = record { front = s.front; common = c; keeps = s.keeps; longest = s.longest }

pub top_shared : (w : Style) (base other shared : List ℕ) → Sharing w base other shared → IsFrontBeside w base other → HasNoParent w shared → StartsWith w other shared
top_shared w base other shared s b none = b.1.1 shared (s.front b.0 b.1.0) none

-- what of the front of a base is known while components behind the shared ones are taken away
pub record Parting (w : Style) (base other front : List ℕ) (count : ℕ) : Type 0 where
  pub sharing : Sharing w base other front
  pub parts : PartsAt w front other count

pub not_all : (w : Style) (base other : List ℕ) (count : ℕ) → PartsAt w base other count → ¬ (StartsWith w other base)
not_all w base other count p h =
    let a = (starts_from w other base p.other_items (p.front ++ p.item ∷ p.back) p.other_are p.are).0 h in
    p.apart (starts_less p.other_items (p.front ++ p.item ∷ []) p.back (subst (StartsAlike p.other_items) (sym (append_assoc p.front (p.item ∷ []) p.back)) a))

pub one_above : (w : Style) (base other front above_it : List ℕ) (count : ℕ) → Parting w base other front count → IsParent w front above_it → Sharing w base other above_it
one_above w base other front above_it count k p = less_shared w base other front above_it k.sharing (not_all w front other count k.parts) p

-- all that the other path shares is left once the last of the others is away
pub last_above : (w : Style) (base other front above_it : List ℕ) (left : List Item) → left ≡ [] → Parting w base other front (length left) → IsParent w front above_it → IsShared w base other above_it
last_above w base other front above_it left none k p =
    let q = k.parts in
    let empty : q.back ≡ [] = no_items q.back (q.many ∙ ap length none) in
    let same : q.front ++ q.item ∷ [] ≡ p.items ++ p.last ∷ [] = one_components w front (q.front ++ q.item ∷ []) (p.items ++ p.last ∷ []) (subst (λ z. AreComponents w front (q.front ++ q.item ∷ z)) empty q.are) p.whole in
    let items = (same_from_push q.front p.items q.item p.last same).0 in
    is_shared w base other above_it (one_above w base other front above_it (length left) k p) ((starts_from w other above_it q.other_items p.items q.other_are p.are).1 (subst (StartsAlike q.other_items) items q.alike))
  where
    no_items : (xs : List Item) → length xs ≡ 0 → xs ≡ []
    no_items [] e = refl
    no_items (x ∷ xs) e = absurd (omega (arith, e))

-- and before that one less is left
pub next_above : (w : Style) (base other front above_it : List ℕ) (left rest : List Item) (x : Item) → left ≡ x ∷ rest → Parting w base other front (length left) → IsParent w front above_it → Parting w base other above_it (length rest)
next_above w base other front above_it left rest x more k p = record { sharing = one_above w base other front above_it (length left) k p; parts = cases (last_of q.back) }
  where
    q : PartsAt w front other (length left)
    q = k.parts

    many : length q.back ≡ length rest + 1
    many = let one : length left ≡ length (x ∷ rest) = ap length more in omega (arith, one, q.many)

    cases : (q.back ≡ []) ⊎ ((ys : List Item) × ((y : Item) × (q.back ≡ ys ++ y ∷ []))) → PartsAt w above_it other (length rest)
    cases (inl e) = let none : length q.back ≡ 0 = ap length e in absurd (omega (arith, none, many))
    cases (inr l) =
        let ys = l.0 in
        let y = l.1.0 in
        let are : AreComponents w front ((q.front ++ q.item ∷ ys) ++ y ∷ []) = subst (AreComponents w front) (ap (λ z. q.front ++ q.item ∷ z) l.1.1 ∙ sym (append_assoc q.front (q.item ∷ ys) (y ∷ []))) q.are in
        let items = (same_from_push (q.front ++ q.item ∷ ys) p.items y p.last (one_components w front ((q.front ++ q.item ∷ ys) ++ y ∷ []) (p.items ++ p.last ∷ []) are p.whole)).0 in
        let long : length q.back ≡ length ys + 1 = ap length l.1.1 ∙ length-append ys (y ∷ []) in
        record {
          front = q.front;
          item = q.item;
          back = ys;
          other_items = q.other_items;
          are = subst (AreComponents w above_it) (sym items) p.are;
          other_are = q.other_are;
          many = omega (arith, long, many);
          alike = q.alike;
          apart = q.apart;
        }

pub top_left : (w : Style) (base other front : List ℕ) (count : ℕ) → Parting w base other front count → IsFrontBeside w base other → HasNoParent w front → IsShared w base other front
top_left w base other front count k b none = is_shared w base other front k.sharing (top_shared w base other front k.sharing b none)

-- two paths walked together: the components so far are alike, so that the remaining ones decide
pub record Together (w : Style) (base other : List ℕ) (left others : List Item) : Type 0 where
  pub front : List Item
  pub other_items : List Item
  pub are : AreComponents w base (front ++ left)
  pub other_are : AreComponents w other other_items
  pub rests : (zs : List Item) → StartsAlike other_items (front ++ zs) ↔ StartsAlike others zs

pub not_begun : (w : Style) (base other : List ℕ) (left others : List Item) → AreComponents w base left → AreComponents w other others → Together w base other left others
not_begun w base other left others are other_are = record { front = []; other_items = others; are = are; other_are = other_are; rests = λ zs. (λ h. h, λ h. h) }

pub one_further : (w : Style) (base other : List ℕ) (left others us vs : List Item) (x y : Item) → Together w base other left others → left ≡ x ∷ us → others ≡ y ∷ vs → AreAlike y x → Together w base other us vs
one_further w base other left others us vs x y k e f a = record {
  front = k.front ++ x ∷ [];
  other_items = k.other_items;
  are = subst (AreComponents w base) (ap (λ z. k.front ++ z) e ∙ sym (append_assoc k.front (x ∷ []) us)) k.are;
  other_are = k.other_are;
  rests = λ zs. (
    λ h. (subst (λ z. StartsAlike z (x ∷ zs)) f ((k.rests (x ∷ zs)).0 (subst (StartsAlike k.other_items) (append_assoc k.front (x ∷ []) zs) h))).1,
    λ h. subst (StartsAlike k.other_items) (sym (append_assoc k.front (x ∷ []) zs)) ((k.rests (x ∷ zs)).1 (subst (λ z. StartsAlike z (x ∷ zs)) (sym f) (a, h))),
  );
}

pub all_together : (w : Style) (base other : List ℕ) (left others : List Item) → left ≡ [] → Together w base other left others → IsShared w base other base
all_together w base other left others e k =
    let whole_base = subst (λ z. AreComponents w base (k.front ++ z)) e k.are in
    is_shared w base other base (all_shared w base other) ((starts_from w other base k.other_items (k.front ++ []) k.other_are whole_base).1 ((k.rests []).1 tt))

parts_at : (w : Style) (base other : List ℕ) (left others us : List Item) (x : Item) → Together w base other left others → left ≡ x ∷ us → ¬ (StartsAlike others (x ∷ [])) → PartsAt w base other (length us)
parts_at w base other left others us x k e n = record {
  front = k.front;
  item = x;
  back = us;
  other_items = k.other_items;
  are = subst (λ z. AreComponents w base (k.front ++ z)) e k.are;
  other_are = k.other_are;
  many = refl;
  alike = subst (StartsAlike k.other_items) (append-nil k.front) ((k.rests []).1 tt);
  apart = λ h. n ((k.rests (x ∷ [])).0 h);
}

pub other_over : (w : Style) (base other : List ℕ) (left others us : List Item) (x : Item) → Together w base other left others → left ≡ x ∷ us → others ≡ [] → PartsAt w base other (length us)
other_over w base other left others us x k e f = parts_at w base other left others us x k e (λ h. subst (λ z. StartsAlike z (x ∷ [])) f h)

pub other_unlike : (w : Style) (base other : List ℕ) (left others us vs : List Item) (x y : Item) → Together w base other left others → left ≡ x ∷ us → others ≡ y ∷ vs → ¬ (AreAlike y x) → PartsAt w base other (length us)
other_unlike w base other left others us vs x y k e f n = parts_at w base other left others us x k e (λ h. n (subst (λ z. StartsAlike z (x ∷ [])) f h).0)

-- the base of the first path alone
pub one_base : (w : Style) (first base : List ℕ) → IsEndTrimmed w first base → IsBaseOf w first [] base
one_base w first base t = record {
  alike = tt;
  front = whole base t;
  common = tt;
  longest = λ path h none. (starts_from w base path t.items h.base_items t.are h.base_are).1 ((starts_from w first path t.items h.base_items t.whole h.base_are).0 h);
}

all_push : (P : List ℕ → Type 0) (xs : List (List ℕ)) (x : List ℕ) → AllByRecursion P xs → P x → AllByRecursion P (xs ++ x ∷ [])
all_push P [] x a p = (p, tt)
all_push P (y ∷ xs) x a p = (a.0, all_push P xs x a.1 p)

all_but_last : (P : List ℕ → Type 0) (xs : List (List ℕ)) (x : List ℕ) → AllByRecursion P (xs ++ x ∷ []) → AllByRecursion P xs × P x
all_but_last P [] x a = (tt, a.0)
all_but_last P (y ∷ xs) x a = let rest = all_but_last P xs x a.1 in ((a.0, rest.0), rest.1)

all_keep : (P Q : List ℕ → Type 0) (xs : List (List ℕ)) → ((x : List ℕ) → P x → Q x) → AllByRecursion P xs → AllByRecursion Q xs
all_keep P Q [] f a = tt
all_keep P Q (x ∷ xs) f a = (f x a.0, all_keep P Q xs f a.1)

-- and of one more
one_more : (w : Style) (first : List ℕ) (done : List (List ℕ)) (base path shared : List ℕ) → IsBaseOf w first done base → BeginAlike w first path → IsShared w base path shared → IsBaseOf w first (done ++ path ∷ []) shared
one_more w first done base path shared b h s = record {
  alike = all_push (BeginAlike w first) done path b.alike h;
  front = s.front first b.front;
  common = all_push (λ z. StartsWith w z shared) done path (all_keep (λ z. StartsWith w z base) (λ z. StartsWith w z shared) done s.keeps b.common) s.common;
  longest = λ other f a.
      let parts = all_but_last (λ z. StartsWith w z other) done path a in
      s.longest other (b.longest other f parts.0) parts.1;
}

-- the paths that were walked over, and their base
pub record Walked (w : Style) (first : List ℕ) (others left : List (List ℕ)) (index : ℕ) (base : List ℕ) : Type 0 where
  pub done : List (List ℕ)
  pub are : others ≡ done ++ left
  pub count : index ≡ length done + 1
  pub based : IsBaseOf w first done base

pub not_walked : (w : Style) (first : List ℕ) (others : List (List ℕ)) (base : List ℕ) → IsEndTrimmed w first base → Walked w first others others 1 base
not_walked w first others base t = record { done = []; are = refl; count = refl; based = one_base w first base t }

module _ {X : Type 0} (w : Style) (f : X → List ℕ) (first : List ℕ) (others : List (List ℕ)) (d : X) (index : ℕ) (base : List ℕ) where
  pub step : (left : List X) → 1 ≤ length left → Walked w first others (map f left) index base → BeginAlike w first (f (get_or left 0 d)) → (shared : List ℕ) → IsShared w base (f (get_or left 0 d)) shared → Walked w first others (map f (take (length left - 1) (drop 1 left))) (index + 1) shared
  step [] l k h shared s = absurd (omega arith)
  step (x ∷ left) l k h shared s = subst (λ z. Walked w first others (map f z) (index + 1) shared) (sym (take_rest (x ∷ left) 1)) (record {
    done = k.done ++ f x ∷ [];
    are = k.are ∙ sym (append_assoc k.done (f x ∷ []) (map f left));
    count = let n : length (k.done ++ f x ∷ []) ≡ length k.done + 1 = length-append k.done (f x ∷ []) in ap (λ z. z + 1) (k.count ∙ sym n);
    based = one_more w first k.done base (f x) shared k.based h s;
  })

  pub apart : (left : List X) → 1 ≤ length left → Walked w first others (map f left) index base → (fault : CommonBaseError) → IsApart w first (f (get_or left 0 d)) index fault → IsFirstApart w first others fault
  apart [] l k fault a = absurd (omega arith)
  apart (x ∷ left) l k fault a = record {
    before = k.done;
    path = f x;
    after = map f left;
    are = k.are;
    alike = k.based.alike;
    apart = subst (λ z. IsApart w first (f x) z fault) k.count a;
  }

-- all are walked over
pub all_walked : (w : Style) (first : List ℕ) (others left : List (List ℕ)) (index : ℕ) (base : List ℕ) → left ≡ [] → Walked w first others left index base → IsBaseOf w first others base
all_walked w first others left index base e k = subst (λ z. IsBaseOf w first z base) (sym (k.are ∙ ap (λ z. k.done ++ z) e ∙ append-nil k.done)) k.based

-- the prefix and the root by the parts of a path
prefix_is : (head : Head) → AreSpelled head.rules (components_in head.rules head.body.now) → prefix_of (items_of head) ≡ prefix_items head.prefix.now
prefix_is head s = cases head.prefix.now
  where
    cases : (p : List ℕ) → prefix_of (prefix_items p ++ (start_items head.start ++ components_in head.rules head.body.now)) ≡ prefix_items p
    cases [] = (no_prefix_first head.start _ (all_below head.rules _ s)).0
    cases (b ∷ p) = refl

root_of_start : (st : Start) (cs : List Item) → AllByRecursion IsBelow cs → base.root_of (start_items st ++ cs) ≡ cleaned_start st
root_of_start Root cs b = refl
root_of_start Dot cs b = refl
root_of_start Nothing [] b = refl
root_of_start Nothing (Prefix s ∷ cs) b = absurd b.0
root_of_start Nothing (RootDir ∷ cs) b = absurd b.0
root_of_start Nothing (CurDir ∷ cs) b = refl
root_of_start Nothing (ParentDir ∷ cs) b = refl
root_of_start Nothing (Normal s ∷ cs) b = refl

root_is : (head : Head) → AreSpelled head.rules (components_in head.rules head.body.now) → base.root_of (after_prefix (items_of head)) ≡ cleaned_start head.start
root_is head s = cases head.prefix.now
  where
    cs : List Item
    cs = components_in head.rules head.body.now

    b : AllByRecursion IsBelow cs
    b = all_below head.rules cs s

    cases : (p : List ℕ) → base.root_of (after_prefix (prefix_items p ++ (start_items head.start ++ cs))) ≡ cleaned_start head.start
    cases [] = ap base.root_of (no_prefix_first head.start cs b).1 ∙ root_of_start head.start cs b
    cases (c ∷ p) = root_of_start head.start cs b

-- what decides whether two paths begin alike
module _ (w : Style) (path other : List ℕ) (head beside : Head) (are : AreComponents w path (items_of head)) (other_are : AreComponents w other (items_of beside)) where
  pub one_prefix_by : HaveOnePrefix w path other ↔ AreAllAlike (prefix_items beside.prefix.now) (prefix_items head.prefix.now)
  one_prefix_by =
      let p = prefix_is head (body_spelled head.rules head.body.now) in
      let q = prefix_is beside (body_spelled beside.rules beside.body.now) in (
        λ h. subst (λ z. AreAllAlike z (prefix_items head.prefix.now)) q (subst (AreAllAlike (prefix_of (items_of beside))) p
            (subst (λ z. AreAllAlike (prefix_of (items_of beside)) (prefix_of z)) (one_components w path h.items (items_of head) h.are are) (subst (λ z. AreAllAlike (prefix_of z) (prefix_of h.items)) (one_components w other h.other_items (items_of beside) h.other_are other_are) h.alike))),
        λ a. record { items = items_of head; other_items = items_of beside; are = are; other_are = other_are; alike = subst (λ z. AreAllAlike z (prefix_of (items_of head))) (sym q) (subst (AreAllAlike (prefix_items beside.prefix.now)) (sym p) a) },
      )

  pub one_root_by : HaveOneRoot w path other ↔ (cleaned_start beside.start ≡ cleaned_start head.start)
  one_root_by =
      let p = root_is head (body_spelled head.rules head.body.now) in
      let q = root_is beside (body_spelled beside.rules beside.body.now) in (
        λ h. sym q ∙ ap (λ z. base.root_of (after_prefix z)) (one_components w other (items_of beside) h.other_items other_are h.other_are) ∙ h.same ∙ ap (λ z. base.root_of (after_prefix z)) (one_components w path h.items (items_of head) h.are are) ∙ p,
        λ e. record { items = items_of head; other_items = items_of beside; are = are; other_are = other_are; same = q ∙ e ∙ sym p },
      )
