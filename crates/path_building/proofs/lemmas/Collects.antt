-- The components of a Unix path, pushed in turn, are those of a path.
use Rattle.std.proofs.Common.{◌≡◌, ◌≢◌, ◌≤◌, ◌-◌, ℕ, true, false, List, [], ◌∷◌, ◌++◌, Some, None, get_or, length, map, take, drop, arith, refl, sym, ap, ◌∙◌, subst, append_assoc, append-nil}
use Rattle.std.proofs.lemmas.List.{take_rest}
use Rattle.path_rules.specs.declared.rules.Rules.TheVariants as rules
use Rattle.path_rules.specs.declared.rules.Style.{Style}
use Rattle.path_rules.specs.declared.rules.Style.TheVariants as style
use Rattle.path_rules.specs.declared.head.Start.{Start}
use Rattle.path_rules.specs.declared.head.Start.TheVariants.{Root, Dot, Nothing}
use Rattle.path_rules.specs.Separators.{separates}
use Rattle.path_rules.specs.Component.{Item, Prefix, RootDir, CurDir, ParentDir, Normal, components_in}
use Rattle.path_rules.specs.Components.{start_of, after_start, plain_components, AreUnixComponents}
use Rattle.path_rules.specs.Heads.{start_items}
use Rattle.path_rules.specs.Root.{BeginsWithSeparator}
use Rattle.path_building.specs.Collected.{string_of, ArePushed}
use Rattle.path_building.specs.Join.{IsJoin, IsRelativeTo, without_dot}
use Rattle.path_building.specs.Spelled.{IsSpelled, AreSpelled}
use Rattle.path_building.specs.Written.{spelling}
use Rattle.path_building.proofs.lemmas.Joins.{join_items, join_to_empty}
use Rattle.path_building.proofs.lemmas.Spelling.{body_spelled, has_first}
use Rattle.path_building.proofs.lemmas.Written.{slash_written}

-- what follows the start of a path: `..` or a name
record IsPart (x : Item) : Type 0 where
  same : string_of style.Unix x ≡ spelling x
  kept : without_dot (x ∷ []) ≡ x ∷ []

part : (x : Item) → IsSpelled rules.Slash x → IsPart x
part (Prefix s) h = let never : None ≡ Some (Prefix s) = h.names in cc
part RootDir h = let never : None ≡ Some RootDir = h.names in cc
part CurDir h = let never : None ≡ Some CurDir = h.names in cc
part ParentDir h = record { same = refl; kept = refl }
part (Normal s) h = record { same = refl; kept = refl }

relative : (x : Item) → IsSpelled rules.Slash x → IsRelativeTo style.Unix (spelling x)
relative x h =
    let f = has_first rules.Slash x h in (
      λ p. p,
      λ b.
          let sep : separates rules.Slash f.first ≡ true = subst (BeginsWithSeparator rules.Slash) f.spells b in
          let never : true ≡ false = sym sep ∙ f.plain in cc,
    )

alone : (x : Item) → IsSpelled rules.Slash x → AreUnixComponents (spelling x) (x ∷ [])
alone x h = slash_written Nothing (x ∷ []) (h, tt) ∙ ap (plain_components rules.Slash) (append-nil (spelling x))

none : (before : List Item) (x : Item) → before ++ x ∷ [] ≡ [] → ⊥
none [] x e = let never : x ∷ [] ≡ [] = e in cc
none (y ∷ before) x e = let never : y ∷ (before ++ x ∷ []) ≡ [] = e in cc

pushed : (names before : List Item) (path made : List ℕ) → AreSpelled rules.Slash names → path ≢ [] → AreUnixComponents path before → ArePushed style.Unix path names made → AreUnixComponents made (before ++ names)
pushed [] before path made sp some are h = subst (λ z. AreUnixComponents z (before ++ [])) (sym h) (subst (AreUnixComponents path) (sym (append-nil before)) are)
pushed (x ∷ xs) before path made sp some are (next, (j, more)) =
    let q = part x sp.0 in
    let join : IsJoin style.Unix path (spelling x) next = subst (λ z. IsJoin style.Unix path z next) q.same j in
    let items : AreUnixComponents next (before ++ without_dot (x ∷ [])) = join_items style.Unix path (spelling x) next some (λ v. v) (relative x sp.0) join tt before (x ∷ []) are (alone x sp.0) in
    let now : AreUnixComponents next (before ++ x ∷ []) = subst (λ z. AreUnixComponents next (before ++ z)) q.kept items in
    let left : next ≢ [] = λ e. none before x (subst (λ z. AreUnixComponents z (before ++ x ∷ [])) e now) in
    subst (AreUnixComponents made) (append_assoc before (x ∷ []) xs) (pushed xs (before ++ x ∷ []) next made sp.1 left now more)

from_start : (st : Start) (names : List Item) (made : List ℕ) → AreSpelled rules.Slash names → ArePushed style.Unix [] (start_items st ++ names) made → AreUnixComponents made (start_items st ++ names)
from_start Root names made sp (next, (j, more)) =
    let first : next ≡ 0x2F ∷ [] = join_to_empty style.Unix (0x2F ∷ []) next j in
    pushed names (RootDir ∷ []) next made sp (λ e. let never : 0x2F ∷ [] ≡ [] = sym first ∙ e in cc) (subst (λ z. AreUnixComponents z (RootDir ∷ [])) (sym first) refl) more
from_start Dot names made sp (next, (j, more)) =
    let first : next ≡ 0x2E ∷ [] = join_to_empty style.Unix (0x2E ∷ []) next j in
    pushed names (CurDir ∷ []) next made sp (λ e. let never : 0x2E ∷ [] ≡ [] = sym first ∙ e in cc) (subst (λ z. AreUnixComponents z (CurDir ∷ [])) (sym first) refl) more
from_start Nothing [] made sp h = subst (λ z. AreUnixComponents z []) (sym h) refl
from_start Nothing (x ∷ xs) made sp (next, (j, more)) =
    let f = has_first rules.Slash x sp.0 in
    let first : next ≡ spelling x = join_to_empty style.Unix (string_of style.Unix x) next j ∙ (part x sp.0).same in
    pushed xs (x ∷ []) next made sp.1 (λ e. let never : f.first ∷ f.later ≡ [] = sym f.spells ∙ sym first ∙ e in cc) (subst (λ z. AreUnixComponents z (x ∷ [])) (sym first) (alone x sp.0)) more

pub collected : (path : List ℕ) (items : List Item) (made : List ℕ) → AreUnixComponents path items → ArePushed style.Unix [] items made → AreUnixComponents made items
collected path items made are h =
    let st = start_of rules.Slash path in
    let names = components_in rules.Slash (after_start st path) in
    subst (AreUnixComponents made) (sym are) (from_start st names made (body_spelled rules.Slash (after_start st path)) (subst (λ z. ArePushed style.Unix [] z made) are h))

-- the first of what is left is pushed
module _ {X : Type 0} (f : X → Item) (w : Style) where
  pub pushed_on : (xs : List X) (d : X) (path next s made : List ℕ) → 1 ≤ length xs → s ≡ string_of w (f (get_or xs 0 d)) → IsJoin w path s next → ArePushed w next (map f (take (length xs - 1) (drop 1 xs))) made → ArePushed w path (map f xs) made
  pushed_on [] d path next s made l e j h = absurd (omega arith)
  pushed_on (x ∷ xs) d path next s made l e j h = (next, (subst (λ z. IsJoin w path z next) e j, subst (λ z. ArePushed w next (map f z) made) (take_rest (x ∷ xs) 1) h))
