-- A base joined with what is left of a path after it.
use Rattle.std.proofs.Common.{◌≡◌, ◌≢◌, ℕ, List, [], ◌∷◌, ◌++◌, refl, sym, ap, ◌∙◌, subst}
use Rattle.std.specs.List.{AllByRecursion, slice_split}
use Rattle.path_rules.specs.declared.rules.Rules.TheVariants as rules
use Rattle.path_rules.specs.declared.rules.Style as whose
use Rattle.path_rules.specs.declared.rules.Style.TheVariants as style
use Rattle.path_rules.specs.Separators.{separates}
use Rattle.path_rules.specs.Component.{Item, Prefix, RootDir, CurDir, ParentDir, Normal, components_in}
use Rattle.path_rules.specs.Components.{AreComponents, AreUnixComponents, plain_components, prefixed, bare}
use Rattle.path_rules.specs.Compare.{AreAllAlike, HaveAlikeComponents, IsNoPrefix}
use Rattle.path_rules.specs.Body.{BeginsNamed}
use Rattle.path_building.specs.Join.{IsVerbatimPath, IsRelativeTo, HaveTheSamePrefix, IsJoin, without_dot}
use Rattle.path_rules.specs.Strip.{IsStripped, IsRestAfter, at_start, at_root, inside}
use Rattle.path_rules.proofs.lemmas.Begins.{no_prefix_items, no_separator_first, plain_begun, some_component}
use Rattle.path_building.proofs.lemmas.Follows.{still}
use Rattle.path_building.proofs.lemmas.Joins.{join_items, join_to_empty}
use Rattle.path_rules.proofs.lemmas.Alike.{all_itself, all_same}

-- lists that are alike, and the same after them
pub alike_append : (xs ys zs : List Item) → AllByRecursion IsNoPrefix zs → AreAllAlike xs ys → AreAllAlike (xs ++ zs) (ys ++ zs)
alike_append [] [] zs n h = all_itself zs n
alike_append [] (y ∷ ys) zs n h = absurd h
alike_append (x ∷ xs) [] zs n h = absurd h
alike_append (x ∷ xs) (y ∷ ys) zs n h = (h.0, alike_append xs ys zs n h.1)

first_all : (xs ys : List Item) → AllByRecursion IsNoPrefix (xs ++ ys) → AllByRecursion IsNoPrefix xs
first_all [] ys n = tt
first_all (x ∷ xs) ys n = (n.0, first_all xs ys n.1)

nothing_alike : (xs ys : List Item) → AreAllAlike xs ys → xs ≡ [] → ys ≡ []
nothing_alike [] [] h e = refl
nothing_alike [] (y ∷ ys) h e = absurd h
nothing_alike (x ∷ xs) ys h e = cc

alike_nothing : (xs ys : List Item) → AreAllAlike xs ys → ys ≡ [] → xs ≡ []
alike_nothing [] ys h e = refl
alike_nothing (x ∷ xs) [] h e = absurd h
alike_nothing (x ∷ xs) (y ∷ ys) h e = cc

without_dot_none : (xs : List Item) → AllByRecursion IsNoPrefix xs → AllByRecursion IsNoPrefix (without_dot xs)
without_dot_none [] n = tt
without_dot_none (Prefix s ∷ xs) n = n
without_dot_none (RootDir ∷ xs) n = n
without_dot_none (CurDir ∷ xs) n = n.1
without_dot_none (ParentDir ∷ xs) n = n
without_dot_none (Normal s ∷ xs) n = n

relative_none : (w : whose.Style) (rest : List ℕ) (items : List Item) → IsRelativeTo w rest → AreComponents w rest items → AllByRecursion IsNoPrefix items
relative_none style.Unix rest items h a = subst (AllByRecursion IsNoPrefix) (sym a) (no_prefix_items rules.Slash rest)
relative_none style.Windows rest items h (bare a) = subst (AllByRecursion IsNoPrefix) (sym a.are) (no_prefix_items rules.Either rest)
relative_none style.Windows rest items h (prefixed a) = absurd (h.0 (a.kind, (a.rest, a.prefix)))

pub strip_joined : (w : whose.Style) (path base rest joined : List ℕ) (more read : List Item) → IsStripped w path base rest more → AreComponents w rest read → without_dot read ≡ more → base ≢ [] → ¬ (IsVerbatimPath w base) → IsRelativeTo w rest
    → IsJoin w base rest joined → HaveTheSamePrefix w base joined → HaveAlikeComponents w path joined
strip_joined w path base rest joined more read s a e some v rel i same = record {
  items = s.items ++ more;
  other_items = s.base_items ++ more;
  are = s.whole;
  other_are = subst (λ x. AreComponents w joined (s.base_items ++ x)) e (join_items w base rest joined some v rel i same s.base_items read s.base_are a);
  alike = alike_append s.items s.base_items more (subst (AllByRecursion IsNoPrefix) e (without_dot_none read (relative_none w rest read rel a))) s.alike;
}

-- on Unix always
module _ (path rest joined : List ℕ) (more : List Item) where
  rest_alone : (base : List ℕ) → IsStripped style.Unix path base rest more → (items : List Item) → AreUnixComponents path items → base ≡ [] → AreUnixComponents rest items
  rest_alone base s items a n = cases s.after
    where
      none : s.items ≡ []
      none = alike_nothing s.items s.base_items s.alike (s.base_are ∙ ap (plain_components rules.Slash) n)

      all : items ≡ more
      all = a ∙ sym s.whole ∙ ap (λ x. x ++ more) none

      cases : IsRestAfter style.Unix (s.before ++ rest) s.before rest s.items more → AreUnixComponents rest items
      cases (at_start b e) = a ∙ sym s.trimmed.whole ∙ s.trimmed.are ∙ ap (λ x. plain_components rules.Slash (x ++ rest)) b
      cases (at_root p r e others f) = absurd p
      cases (inside r body has names begins) =
          all ∙ sym names ∙ ap (λ x. components_in x rest) has.rules ∙ sym (plain_begun rules.Slash refl rest (subst (λ x. BeginsNamed x rest) has.rules begins))

  rest_after : (base : List ℕ) → IsStripped style.Unix path base rest more → IsJoin style.Unix base rest joined → (items : List Item) → AreUnixComponents path items → base ≢ [] → AreUnixComponents joined items
  rest_after base s i items a some = cases s.after
    where
      cases : IsRestAfter style.Unix (s.before ++ rest) s.before rest s.items more → AreUnixComponents joined items
      cases (at_start b e) = absurd (some (some_component style.Unix base (subst (AreUnixComponents base) (nothing_alike s.items s.base_items s.alike e) s.base_are)))
      cases (at_root p r e others f) = absurd p
      cases (inside r body has names begins) =
          let named = subst (λ x. BeginsNamed x rest) has.rules begins in
          let found : components_in rules.Slash rest ≡ more = ap (λ x. components_in x rest) (sym has.rules) ∙ names in
          let read : AreUnixComponents rest more = sym found ∙ sym (plain_begun rules.Slash refl rest named) in
          let kept : without_dot more ≡ more = ap without_dot (sym found) ∙ still rules.Slash refl (slice_split (separates rules.Slash) rest) ∙ found in
          let both : AreUnixComponents joined (s.base_items ++ without_dot more) =
          join_items style.Unix base rest joined some (λ v. v) (λ p. p, no_separator_first rules.Slash rest named) i tt s.base_items more s.base_are read in
          let same : s.items ≡ s.base_items = all_same s.items s.base_items (first_all s.items more (subst (AllByRecursion IsNoPrefix) (sym s.whole) (no_prefix_items rules.Slash path))) s.alike in
          a ∙ sym s.whole ∙ ap (λ x. x ++ more) same ∙ ap (λ x. s.base_items ++ x) (sym kept) ∙ both

  pub unix_strip : (base : List ℕ) → IsStripped style.Unix path base rest more → IsJoin style.Unix base rest joined → (items : List Item) → AreUnixComponents path items → AreUnixComponents joined items
  unix_strip [] s i items a = rest_alone [] s items a refl ∙ ap (plain_components rules.Slash) (sym (join_to_empty style.Unix rest joined i))
  unix_strip (b ∷ base) s i items a = rest_after (b ∷ base) s i items a (λ n. cc)
