-- Paths with another last name, or another extension of it.
use Rattle.std.proofs.Common.{◌≡◌, ◌≢◌, ◌⊎◌, inl, inr, ℕ, Bool, true, false, List, [], ◌∷◌, ◌++◌, refl, sym, ap, ◌∙◌, subst, append-nil}
use Rattle.std.specs.Prelude.{IsTrue}
use Rattle.std.proofs.lemmas.List.{append_assoc, same_from_push}
use Rattle.path_rules.specs.declared.rules.Rules.TheVariants.{Slash}
use Rattle.path_rules.specs.declared.rules.Style.{Style}
use Rattle.path_rules.specs.declared.rules.Style.TheVariants.{Unix}
use Rattle.path_rules.specs.Root.{BeginsWithSeparator}
use Rattle.path_rules.specs.Component.{Item, Normal}
use Rattle.path_rules.specs.Components.{AreComponents, AreUnixComponents}
use Rattle.path_rules.specs.Name.{IsExtension, IsStem}
use Rattle.path_rules.specs.Parent.{HasFileName, HasNoFileName}
use Rattle.os_path.specs.Names.{HasFileStem}
use Rattle.path_building.specs.FileName.{IsNameBase, IsNamed, IsFileNameAt, IsStemExtended, IsNameExtended, IsKept, dotted}
use Rattle.path_building.specs.FileStem.{IsStemSet}
use Rattle.path_building.specs.Join.{IsJoin, IsVerbatimPath, IsRelativeTo, HaveTheSamePrefix, without_dot}
use Rattle.test_path_uses.proofs.Joins.{OneList}

-- the path has the text in it, and the answer goes on after that with the extension
abbrev pub IsExtendedAfter : List ℕ → List ℕ → List ℕ → List ℕ → Type 0
IsExtendedAfter path text extension made = (before : List ℕ) × ((after : List ℕ) × ((path ≡ before ++ (text ++ after)) × (made ≡ before ++ (text ++ dotted extension))))

abbrev pub OneStem : Type 0
OneStem = (name stem extension other another : List ℕ) → IsExtension name stem extension → IsExtension name other another → (stem ≡ other) × (extension ≡ another)

stem_same : OneStem → (name one other : List ℕ) → IsStem name one → IsStem name other → one ≡ other
stem_same law name one other (inl h) (inl k) = (law name one h.0 other k.0 h.1 k.1).0
stem_same law name one other (inl h) (inr k) = absurd (k.0 one h.0 h.1)
stem_same law name one other (inr h) (inl k) = absurd (h.0 other k.0 k.1)
stem_same law name one other (inr h) (inr k) = h.1 ∙ sym k.1

begins_with_stem : (name stem : List ℕ) → IsStem name stem → (rest : List ℕ) × (name ≡ stem ++ rest)
begins_with_stem name stem (inl h) = (0x2E ∷ h.0, h.1.joined)
begins_with_stem name stem (inr h) = ([], sym h.1 ∙ sym (append-nil stem))

name_is : (w : Style) (path before name after other : List ℕ) → IsFileNameAt w path before name after → HasFileName w path other → name ≡ other
name_is w path before name after other at has =
    let found = has (at.items ++ Normal name ∷ []) at.whole in
    let same : Normal name ≡ Normal other = (same_from_push at.items found.0 (Normal name) (Normal other) found.1).1 in
    cc

pub after_stem : OneStem → (w : Style) (path extension made stem : List ℕ) → IsStemExtended w path extension made → HasFileStem w path stem → IsExtendedAfter path stem extension made
after_stem law w path extension made stem h (name, (has, is)) =
    let names = name_is w path h.before h.name h.after name h.at has in
    let stems = stem_same law name h.stem stem (subst (λ x. IsStem x h.stem) names h.stem_is) is in
    let begins = begins_with_stem name stem is in (
      h.before,
      (
        begins.0 ++ h.after,
        (
          h.at.joined ∙ ap (λ x. h.before ++ (x ++ h.after)) (names ∙ begins.1) ∙ ap (λ x. h.before ++ x) (append_assoc stem begins.0 h.after),
          h.is ∙ ap (λ x. h.before ++ (x ++ dotted extension)) stems,
        ),
      ),
    )

-- a path without a last name has no other stem
pub kept_without_name : (w : Style) (path stem made : List ℕ) → IsStemSet w path stem made → HasNoFileName w path → made ≡ path
kept_without_name w path stem made (inl h) none = absurd (none (h.items ++ Normal h.name ∷ []) h.items h.name h.whole refl)
kept_without_name w path stem made (inr h) none = h.1

is_written : {E S W : Type 0} → (E × S) ⊎ ((¬ E) × W) → ¬ E → W
is_written (inl h) some = absurd (some h.0)
is_written (inr h) some = h.1

pub after_name : (w : Style) (path extension made name : List ℕ) → IsNameExtended w path extension made → extension ≢ [] → HasFileName w path name → IsExtendedAfter path name extension made
after_name w path extension made name h some has =
    let names = name_is w path h.before h.name h.after name h.at has in (
      h.before,
      (
        h.after,
        (
          h.at.joined ∙ ap (λ x. h.before ++ (x ++ h.after)) names,
          is_written h.is some ∙ ap (λ x. h.before ++ (x ++ dotted extension)) names,
        ),
      ),
    )

-- what a call that sets an extension answers, where `Done` is what it does to a path that ends in a name
module _ (w : Style) (path made : List ℕ) {Done : Type 0} where
  pub done : (b : Bool) → (IsTrue b × Done) ⊎ ((b ≡ false) × IsKept w path made) → IsTrue b → Done
  done b (inl h) t = h.1
  done b (inr h) t = let never : false ≡ true = sym h.0 ∙ t in cc

  pub kept : (b : Bool) → (IsTrue b × Done) ⊎ ((b ≡ false) × IsKept w path made) → b ≡ false → made ≡ path
  kept b (inl h) e = let never : true ≡ false = sym h.0 ∙ e in cc
  kept b (inr h) e = h.1.1

  pub always : (b : Bool) (items : List Item) (name : List ℕ) → AreComponents w path items → (IsTrue b × Done) ⊎ ((b ≡ false) × IsKept w path made) → HasFileName w path name → IsTrue b
  always b items name are (inl h) has = h.0
  always b items name are (inr h) has = let found = has items are in absurd (h.1.0 items found.0 name are found.1)

  pub nothing_done : (Done → (name : List ℕ) × ((items : List Item) × AreComponents w path (items ++ Normal name ∷ []))) → (b : Bool) → (IsTrue b × Done) ⊎ ((b ≡ false) × IsKept w path made)
      → HasNoFileName w path → made ≡ path
  nothing_done has b (inl h) none = let found = has h.1 in absurd (none (found.1.0 ++ Normal found.0 ∷ []) found.1.0 found.0 found.1.1 refl)
  nothing_done has b (inr h) none = h.1.1

  pub done_where_named : (b : Bool) (items : List Item) (name : List ℕ) → AreComponents w path items → (IsTrue b × Done) ⊎ ((b ≡ false) × IsKept w path made) → HasFileName w path name → Done
  done_where_named b items name are h has = done b h (always b items name are h has)

pub ends_in_stem : (w : Style) (path extension made : List ℕ) → IsStemExtended w path extension made → (name : List ℕ) × ((items : List Item) × AreComponents w path (items ++ Normal name ∷ []))
ends_in_stem w path extension made h = (h.name, (h.at.items, h.at.whole))

pub ends_in_name : (w : Style) (path extension made : List ℕ) → IsNameExtended w path extension made → (name : List ℕ) × ((items : List Item) × AreComponents w path (items ++ Normal name ∷ []))
ends_in_name w path extension made h = (h.name, (h.at.items, h.at.whole))

-- a name by itself is a relative path
relative_name : (name : List ℕ) → AreUnixComponents name (Normal name ∷ []) → ¬ (BeginsWithSeparator Slash name)
relative_name [] are s = s
relative_name (b ∷ []) are s = let never = (rw s at are) in cc
relative_name (b ∷ c ∷ rest) are s = let never = (rw s at are) in cc

module _ (list : OneList) (empty : (w : Style) (path joined : List ℕ) → IsJoin w [] path joined → joined ≡ path)
    (both : (w : Style) (base path joined : List ℕ) → base ≢ [] → ¬ (IsVerbatimPath w base) → IsRelativeTo w path → IsJoin w base path joined → HaveTheSamePrefix w base joined
    → (items more : List Item) → AreComponents w base items → AreComponents w path more → AreComponents w joined (items ++ without_dot more)) where
  after_base : (base name made : List ℕ) (items : List Item) → IsJoin Unix base name made → AreUnixComponents base items → AreUnixComponents name (Normal name ∷ []) → AreUnixComponents made (items ++ Normal name ∷ [])
  after_base [] name made items join are alone =
      subst (λ x. AreUnixComponents x (items ++ Normal name ∷ [])) (sym (empty Unix name made join)) (subst (λ xs. AreUnixComponents name (xs ++ Normal name ∷ [])) (sym are) alone)
  after_base (b ∷ base) name made items join are alone =
      both Unix (b ∷ base) name made (λ e. cc) (λ v. v) (λ p. p, relative_name name alone) join tt items (Normal name ∷ []) are alone

  base_items : (path base : List ℕ) (items : List Item) (last : List ℕ) → IsNameBase Unix path base → AreUnixComponents path (items ++ Normal last ∷ []) → AreUnixComponents base items
  base_items path base items last (inl (has, parent)) are =
      subst (AreUnixComponents base) (same_from_push parent.items items parent.last (Normal last) (list Unix path (parent.items ++ parent.last ∷ []) (items ++ Normal last ∷ []) parent.whole are)).0 parent.are
  base_items path base items last (inr (none, e)) are = absurd (none (items ++ Normal last ∷ []) items last are refl)

  pub named_unix : (path name made : List ℕ) → IsNamed Unix path name made → (items : List Item) (last : List ℕ) → AreUnixComponents path (items ++ Normal last ∷ []) → AreUnixComponents name (Normal name ∷ [])
      → AreUnixComponents made (items ++ Normal name ∷ [])
  named_unix path name made (base, (is_base, join)) items last are alone = after_base base name made items join (base_items path base items last is_base are) alone
