-- A path with a separator at its end is a path after which an empty one is joined.
use Rattle.std.proofs.Common.{◌≡◌, ◌≢◌, ◌⊎◌, inl, inr, ℕ, Bool, true, false, if◌then◌else◌, List, [], ◌∷◌, ◌++◌, refl, sym, ap, ◌∙◌, subst, append_assoc, append-nil}
use Rattle.std.proofs.lemmas.List.{append_cancel_left}
use Rattle.path_rules.specs.declared.rules.Rules.{Rules}
use Rattle.path_rules.specs.declared.rules.Rules.TheVariants as rules
use Rattle.path_rules.specs.declared.rules.Style as whose
use Rattle.path_rules.specs.declared.rules.Style.TheVariants as style
use Rattle.path_rules.specs.Separators.{separates}
use Rattle.path_rules.specs.StyleRules.{rules_of_style, main_separator}
use Rattle.path_rules.specs.Component.{Item, Prefix, components_in}
use Rattle.path_rules.specs.Heads.{start_items}
use Rattle.path_rules.specs.Prefix.{Kind, Verbatim, VerbatimUnc, VerbatimDisk, Device, Unc, Disk, IsPrefixOf, rules_of, IsPrefixed}
use Rattle.path_rules.specs.Components.{root_of, after_root, AreComponents, prefixed, bare}
use Rattle.path_rules.specs.Trailing.{EndsWithSeparator}
use Rattle.path_rules.proofs.lemmas.Bodies.{cut_items}
use Rattle.path_rules.proofs.lemmas.OneList.{one_prefix, one_components}
use Rattle.path_building.specs.Base.{IsVerbatimAlone}
use Rattle.path_building.specs.Join.{IsVerbatimPath, IsDriveAlone, IsBetween, IsJoin, replacing, resolving, at_root, after, ShareAPrefix, HaveTheSamePrefix, IsRelativeTo}
use Rattle.path_building.specs.Trailing.{IsWithTrailingSep}
use Rattle.path_building.proofs.lemmas.Joins.{join_items, join_to_empty, main_separates}

no_prefix : (w : whose.Style) → ¬ (IsPrefixed w [])
no_prefix style.Unix h = h
no_prefix style.Windows h = h.1.1

pub from_join : (w : whose.Style) (path ended : List ℕ) → IsJoin w path [] ended → IsWithTrailingSep w path ended
from_join w path ended (replacing p e) = absurd (no_prefix w p)
from_join w path ended (resolving p v s i) = absurd (s refl)
from_join w path ended (at_root p v i) = absurd i.root
from_join w path ended (after p v i) = record { between = i.between; written = i.written; is = i.is ∙ ap (λ x. path ++ x) (append-nil i.between) }

pub to_join : (w : whose.Style) (path ended : List ℕ) → IsWithTrailingSep w path ended → IsJoin w path [] ended
to_join w path ended h = after (no_prefix w) (inl refl) (record { between = h.between; relative = λ k. k; written = h.written; is = h.is ∙ ap (λ x. path ++ x) (sym (append-nil h.between)) })

-- the path ends with a separator
pub ends : (w : whose.Style) (path ended : List ℕ) → IsWithTrailingSep w path ended → path ≢ [] → ¬ (IsDriveAlone w path) → EndsWithSeparator (rules_of_style w) ended
ends w path ended h some drive = by h.written
  where
    by : IsBetween w path h.between → EndsWithSeparator (rules_of_style w) ended
    by (inl (inl n, e)) = absurd (some n)
    by (inl (inr (inl k), e)) = subst (EndsWithSeparator (rules_of_style w)) (sym (h.is ∙ ap (λ x. path ++ x) e ∙ append-nil path)) k
    by (inl (inr (inr d), e)) = absurd (drive d)
    by (inr (n, e)) = record { before = path; last = main_separator w; joined = h.is ∙ ap (λ x. path ++ x) e; is = main_separates w }

pub kept : (w : whose.Style) (path ended : List ℕ) → IsWithTrailingSep w path ended → EndsWithSeparator (rules_of_style w) path → ended ≡ path
kept w path ended h k = by h.written
  where
    by : IsBetween w path h.between → ended ≡ path
    by (inl (n, e)) = h.is ∙ ap (λ x. path ++ x) e ∙ append-nil path
    by (inr (n, e)) = absurd (n (inr (inl k)))

-- a separator at the end names nothing
module _ (r : Rules) (c : ℕ) (is : separates r c ≡ true) where
  ended_items : (z : List ℕ) → components_in r z ≡ components_in r (z ++ c ∷ [])
  ended_items z = sym (cut_items r (z ++ c ∷ []) z [] (record { separator = c; joined = refl; parts = is }) ∙ append-nil (components_in r z))

  either : (v : Bool) (d : ℕ) (t : List ℕ) → components_in r (if v then t else d ∷ t) ≡ components_in r (if v then t ++ c ∷ [] else d ∷ (t ++ c ∷ []))
  either true d t = ended_items t
  either false d t = ended_items (d ∷ t)

  longer : (kind : Kind) (d : ℕ) (t : List ℕ) → start_items (root_of kind (d ∷ t)) ++ components_in r (after_root (d ∷ t)) ≡ start_items (root_of kind (d ∷ (t ++ c ∷ []))) ++ components_in r (after_root (d ∷ (t ++ c ∷ [])))
  longer kind d t = ap (λ x. start_items (root_of kind (d ∷ t)) ++ x) (either (separates rules.Either d) d t)

verbatim_or : (kind : Kind) → (rules_of kind ≡ rules.Verbatim) ⊎ (rules_of kind ≡ rules.Verbatim → ⊥)
verbatim_or (Verbatim n) = inl refl
verbatim_or (VerbatimUnc s n) = inl refl
verbatim_or (VerbatimDisk l) = inl refl
verbatim_or (Device n) = inr (λ e. let never : rules.Either ≡ rules.Verbatim = e in cc)
verbatim_or (Unc s n) = inr (λ e. let never : rules.Either ≡ rules.Verbatim = e in cc)
verbatim_or (Disk l) = inr (λ e. let never : rules.Either ≡ rules.Verbatim = e in cc)

-- after a prefix that begins with `\\?\`, and more
after_more : (path ended : List ℕ) (k : ShareAPrefix path ended) (rest : List ℕ) → k.after_first ≡ rest → rest ≢ [] → rules_of k.kind ≡ rules.Verbatim → (between : List ℕ) → IsBetween style.Windows path between → ended ≡ path ++ between → (xs : List Item) → AreComponents style.Windows path xs → AreComponents style.Windows ended xs
after_more path ended k [] f some v between b is xs a = absurd (some refl)
after_more path ended k (d ∷ t) f some v between (inl (n, e)) is xs a = subst (λ x. AreComponents style.Windows x xs) (sym (is ∙ ap (λ x. path ++ x) e ∙ append-nil path)) a
after_more path ended k (d ∷ t) f some v between (inr (n, e)) is xs a =
    let c : ℕ = 0x5C in
    let rest : k.after_second ≡ d ∷ (t ++ c ∷ []) =
    append_cancel_left k.raw k.after_second (d ∷ (t ++ c ∷ []))
    (sym k.second_joined ∙ is ∙ ap (λ x. path ++ x) e ∙ ap (λ x. x ++ c ∷ []) (k.first_joined ∙ ap (λ x. k.raw ++ x) f) ∙ append_assoc k.raw (d ∷ t) (c ∷ [])) in
    let first : IsPrefixOf path k.kind (d ∷ t) = subst (IsPrefixOf path k.kind) f k.first in
    let ones = one_components style.Windows path xs (Prefix k.raw ∷ (start_items (root_of k.kind (d ∷ t)) ++ components_in (rules_of k.kind) (after_root (d ∷ t)))) a
    (prefixed (record { kind = k.kind; raw = k.raw; rest = d ∷ t; joined = k.first_joined ∙ ap (λ x. k.raw ++ x) f; prefix = first; are = refl })) in
    let separates_it : separates (rules_of k.kind) c ≡ true = ap (λ r. separates r c) v in
    prefixed (record {
      kind = k.kind;
      raw = k.raw;
      rest = k.after_second;
      joined = k.second_joined;
      prefix = k.second;
      are =
          ones ∙ ap (λ x. Prefix k.raw ∷ x) (longer (rules_of k.kind) c separates_it k.kind d t)
          ∙ ap (λ x. Prefix k.raw ∷ (start_items (root_of k.kind x) ++ components_in (rules_of k.kind) (after_root x))) (sym rest);
    })

nothing : (w : whose.Style) → AreComponents w [] []
nothing style.Unix = refl
nothing style.Windows = bare (record { none = λ kind rest p. p; are = refl })

alone : (w : whose.Style) → IsRelativeTo w []
alone w = (no_prefix w, λ k. k)

-- where the path isn't verbatim
other_items : (w : whose.Style) (path ended : List ℕ) → path ≢ [] → ¬ (IsVerbatimPath w path) → IsWithTrailingSep w path ended → HaveTheSamePrefix w path ended → (xs : List Item) → AreComponents w path xs → AreComponents w ended xs
other_items w path ended some v h k xs a = subst (AreComponents w ended) (append-nil xs) (join_items w path [] ended some v (alone w) (to_join w path ended h) k xs [] a (nothing w))

windows_items : (path ended : List ℕ) → path ≢ [] → IsWithTrailingSep style.Windows path ended → HaveTheSamePrefix style.Windows path ended → ¬ (IsVerbatimAlone style.Windows path) → (xs : List Item) → AreComponents style.Windows path xs → AreComponents style.Windows ended xs
windows_items path ended some h (inr n) v xs a = other_items style.Windows path ended some (λ x. n.0 (x.0, (x.1.0, x.1.1.0))) h (inr n) xs a
windows_items path ended some h (inl k) v xs a = cases (verbatim_or k.kind)
  where
    cases : (rules_of k.kind ≡ rules.Verbatim) ⊎ (rules_of k.kind ≡ rules.Verbatim → ⊥) → AreComponents style.Windows ended xs
    cases (inl e) = after_more path ended k k.after_first refl (λ n. v (k.kind, (subst (IsPrefixOf path k.kind) n k.first, e))) e h.between h.written h.is xs a
    cases (inr n) = other_items style.Windows path ended some (λ x. n (ap rules_of ((one_prefix path k.kind x.0 k.after_first x.1.0 k.first x.1.1.0).0) ∙ x.1.1.1)) h (inl k) xs a

pub same_items : (w : whose.Style) (path ended : List ℕ) → IsWithTrailingSep w path ended → HaveTheSamePrefix w path ended → ¬ (IsVerbatimAlone w path) → (xs : List Item) → AreComponents w path xs → AreComponents w ended xs
same_items w [] ended h k v xs a = subst (λ x. AreComponents w x xs) (sym (join_to_empty w [] ended (to_join w [] ended h))) a
same_items style.Unix (b ∷ s) ended h k v xs a = other_items style.Unix (b ∷ s) ended (λ e. cc) (λ x. x) h k xs a
same_items style.Windows (b ∷ s) ended h k v xs a = windows_items (b ∷ s) ended (λ e. cc) h k v xs a
