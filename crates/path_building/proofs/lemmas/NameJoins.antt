-- A parent joined with the last name, and what comparisons say of the components.
use Rattle.std.proofs.Common.{◌≡◌, ◌≢◌, ℕ, List, [], ◌∷◌, ◌++◌, refl, sym, ap, ◌∙◌, subst}
use Rattle.std.proofs.lemmas.List.{same_from_push}
use Rattle.std.specs.List.{AllByRecursion}
use Rattle.path_rules.specs.declared.rules.Rules.{Rules}
use Rattle.path_rules.specs.declared.rules.Rules.TheVariants as rules
use Rattle.path_rules.specs.declared.rules.Style as whose
use Rattle.path_rules.specs.declared.rules.Style.TheVariants as style
use Rattle.path_rules.specs.declared.head.Start.{Start}
use Rattle.path_rules.specs.declared.head.Start.TheVariants.{Root, Dot, Nothing}
use Rattle.path_rules.specs.Component.{Item, Prefix, RootDir, CurDir, ParentDir, Normal, components_in}
use Rattle.path_rules.specs.Components.{AreComponents, AreUnixComponents, start_of, after_start, plain_components}
use Rattle.path_rules.specs.Heads.{start_items}
use Rattle.path_building.specs.Join.{IsVerbatimPath, IsRelativeTo, HaveTheSamePrefix, IsJoin}
use Rattle.path_rules.specs.Parent.{IsParent, HasFileName}
use Rattle.path_building.specs.Spelled.{IsSpelled, AreSpelled}
use Rattle.path_rules.proofs.lemmas.Begins.{no_separator_first, plain_begun}
use Rattle.path_rules.proofs.lemmas.Bodies.{one_item}
use Rattle.path_building.proofs.lemmas.Joins.{join_items, join_to_empty}
use Rattle.path_rules.proofs.lemmas.OneList.{one_components}
use Rattle.path_building.proofs.lemmas.Spelling.{body_spelled}
use Rattle.path_rules.proofs.lemmas.Tails.{begins_alone}

-- a component that is a name is written as a part that names it
abbrev NameSpelled : Rules → Item → Type 0
NameSpelled r (Prefix s) = Unit {0}
NameSpelled r RootDir = Unit {0}
NameSpelled r CurDir = Unit {0}
NameSpelled r ParentDir = Unit {0}
NameSpelled r (Normal s) = IsSpelled r (Normal s)

from_spelled : (r : Rules) (xs : List Item) → AreSpelled r xs → AllByRecursion (NameSpelled r) xs
from_spelled r [] h = tt
from_spelled r (Prefix s ∷ xs) h = (tt, from_spelled r xs h.1)
from_spelled r (RootDir ∷ xs) h = (tt, from_spelled r xs h.1)
from_spelled r (CurDir ∷ xs) h = (tt, from_spelled r xs h.1)
from_spelled r (ParentDir ∷ xs) h = (tt, from_spelled r xs h.1)
from_spelled r (Normal s ∷ xs) h = (h.0, from_spelled r xs h.1)

names_spelled : (r : Rules) (st : Start) (body : List ℕ) → AllByRecursion (NameSpelled r) (start_items st ++ components_in r body)
names_spelled r Root body = (tt, from_spelled r (components_in r body) (body_spelled r body))
names_spelled r Dot body = (tt, from_spelled r (components_in r body) (body_spelled r body))
names_spelled r Nothing body = from_spelled r (components_in r body) (body_spelled r body)

all_last : (r : Rules) (xs : List Item) (s : List ℕ) → AllByRecursion (NameSpelled r) (xs ++ Normal s ∷ []) → IsSpelled r (Normal s)
all_last r [] s h = h.0
all_last r (x ∷ xs) s h = all_last r xs s h.1

-- the last name of a Unix path, read by itself
record ReadsAlone (name : List ℕ) : Type 0 where
  are : AreUnixComponents name (Normal name ∷ [])
  relative : IsRelativeTo style.Unix name

name_alone : (path name : List ℕ) (before : List Item) → AreUnixComponents path (before ++ Normal name ∷ []) → ReadsAlone name
name_alone path name before a =
    let sp : IsSpelled rules.Slash (Normal name) =
    all_last rules.Slash before name (subst (AllByRecursion (NameSpelled rules.Slash)) (sym a) (names_spelled rules.Slash (start_of rules.Slash path) (after_start (start_of rules.Slash path) path))) in
    let begins = begins_alone rules.Slash name (Normal name) sp.plain (sym sp.names) in
    record {
      are = sym (plain_begun rules.Slash refl name begins ∙ one_item rules.Slash name (Normal name) sp.plain (sym sp.names));
      relative = (λ p. p, no_separator_first rules.Slash name begins);
    }

module _ (w : whose.Style) (path parent name joined : List ℕ) (p : IsParent w path parent) (h : HasFileName w path name) where
  last_is : (items : List Item) → AreComponents w path items → items ≡ p.items ++ Normal name ∷ []
  last_is items a =
      let f = h (p.items ++ p.last ∷ []) p.whole in
      let same = same_from_push p.items (f.0) p.last (Normal name) (f.1) in
      one_components w path items (p.items ++ p.last ∷ []) a p.whole ∙ ap (λ x. p.items ++ x ∷ []) (same.1)

  pub name_joined : AreComponents w name (Normal name ∷ []) → parent ≢ [] → ¬ (IsVerbatimPath w parent) → IsRelativeTo w name → IsJoin w parent name joined → HaveTheSamePrefix w parent joined
      → (items : List Item) → AreComponents w path items → AreComponents w joined items
  name_joined read some v rel i same items a = subst (AreComponents w joined) (sym (last_is items a)) (join_items w parent name joined some v rel i same p.items (Normal name ∷ []) p.are read)

-- on Unix always
pub unix_name : (path parent name joined : List ℕ) → IsParent style.Unix path parent → HasFileName style.Unix path name → IsJoin style.Unix parent name joined → (items : List Item) → AreUnixComponents path items → AreUnixComponents joined items
unix_name path [] name joined p h i items a =
    let all = last_is style.Unix path [] name joined p h items a in
    let alone = name_alone path name p.items (subst (AreUnixComponents path) all a) in
    let one : items ≡ Normal name ∷ [] = all ∙ ap (λ x. x ++ Normal name ∷ []) p.are in
    one ∙ alone.are ∙ ap (plain_components rules.Slash) (sym (join_to_empty style.Unix name joined i))
unix_name path (b ∷ parent) name joined p h i items a =
    let alone = name_alone path name p.items (subst (AreUnixComponents path) (last_is style.Unix path (b ∷ parent) name joined p h items a) a) in
    name_joined style.Unix path (b ∷ parent) name joined p h alone.are (λ n. cc) (λ v. v) alone.relative i tt items a
