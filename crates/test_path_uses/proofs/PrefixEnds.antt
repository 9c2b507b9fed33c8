-- What a path's first component is, where it is a prefix.
use Rattle.std.proofs.Common.{◌≡◌, inl, inr, ℕ, false, List, [], ◌∷◌, ◌++◌, Option, Some, None, MatchOption, refl, sym, ap, ◌∙◌, subst, append-nil}
use Rattle.std.specs.Option.{option_map}
use Rattle.std.specs.Prelude.{is_some}
use Rattle.std.proofs.lemmas.List.{append_cancel_right}
use Rattle.path_rules.specs.declared.rules.Rules.TheVariants.{Either}
use Rattle.path_rules.specs.declared.rules.Style.TheVariants as style
use Rattle.path_rules.specs.Separators.{Edge}
use Rattle.path_rules.specs.Component.{Item, Prefix}
use Rattle.path_rules.specs.Components.{AreWindowsComponents, prefixed, bare}
use Rattle.path_rules.specs.Prefix.{Kind, IsPrefixOf}
use Rattle.os_path.specs.Prefixes.{HasPrefix, HasNoPrefix}
use Rattle.os_path.specs.Strings.{IsPrefixKind, HasNoPrefixKind}

module _ (path : List ℕ)
    (one : (s : List ℕ) (a b : Kind) (x y : List ℕ) → IsPrefixOf s a x → IsPrefixOf s b y → (a ≡ b) × (x ≡ y))
    (stays : (s : List ℕ) (kind : Kind) (rest t more : List ℕ) → rest ≡ t ++ more → IsPrefixOf s kind rest → (before : List ℕ) × ((s ≡ before ++ rest) × IsPrefixOf (before ++ t) kind t)) where
  -- the bytes of the prefix have its kind
  raw_kind : (items : List Item) (kind : Kind) (rest : List ℕ) → AreWindowsComponents path items → IsPrefixOf path kind rest → (raw : List ℕ) × ((others : List Item) × ((items ≡ Prefix raw ∷ others) × IsPrefixOf raw kind []))
  raw_kind items kind rest (bare a) p = absurd (a.none kind rest p)
  raw_kind items kind rest (prefixed a) p =
      let same = one path a.kind kind a.rest rest a.prefix p in
      let s = stays path kind rest [] rest refl p in
      let raws : s.0 ≡ a.raw = append_cancel_right s.0 a.raw rest (sym s.1.0 ∙ a.joined ∙ ap (λ x. a.raw ++ x) same.1) in
      (a.raw, (_, (a.are, subst (λ x. IsPrefixOf x kind []) (append-nil s.0 ∙ raws) s.1.1)))

  pub no_first : (items left : List Item) → AreWindowsComponents path items → items ≡ [] → (kind : Kind) (rest : List ℕ) → ¬ (IsPrefixOf path kind rest)
  no_first items left are none kind rest p =
      let q = raw_kind items kind rest are p in
      let never : [] ≡ Prefix q.0 ∷ q.1.0 = sym none ∙ q.1.1.0 in cc

module _ {X Y : Type 0} (item : X → Item) (view : Y → Kind) (path : List ℕ)
    (one : (s : List ℕ) (a b : Kind) (x y : List ℕ) → IsPrefixOf s a x → IsPrefixOf s b y → (a ≡ b) × (x ≡ y))
    (stays : (s : List ℕ) (kind : Kind) (rest t more : List ℕ) → rest ≡ t ++ more → IsPrefixOf s kind rest → (before : List ℕ) × ((s ≡ before ++ rest) × IsPrefixOf (before ++ t) kind t)) where
  kind_is : (first : X) (raw : List ℕ) (kind : Kind) → item first ≡ Prefix raw → IsPrefixOf raw kind [] → (r : Option Y) → MatchOption r (HasNoPrefixKind style.Windows (item first)) (λ k. IsPrefixKind style.Windows (item first) (view k)) → option_map view r ≡ Some kind
  kind_is first raw kind e p None h = absurd ((subst (HasNoPrefixKind style.Windows) e h) kind [] p)
  kind_is first raw kind e p (Some y) h =
      let has = subst (λ i. IsPrefixKind style.Windows i (view y)) e h in
      ap Some (one raw (view y) kind has.0 [] has.1 p).0

  pub first_kind : (first : X) (items left : List Item) (r : Option Y) → AreWindowsComponents path items → items ≡ item first ∷ left → MatchOption r (HasNoPrefixKind style.Windows (item first)) (λ k. IsPrefixKind style.Windows (item first) (view k))
      → (kind : Kind) (rest : List ℕ) → IsPrefixOf path kind rest → option_map view r ≡ Some kind
  first_kind first items left r are given h kind rest p =
      let q = raw_kind path one stays items kind rest are p in
      let both : item first ∷ left ≡ Prefix q.0 ∷ q.1.0 = sym given ∙ q.1.1.0 in
      let same : item first ≡ Prefix q.0 = cc in
      kind_is first q.0 kind same q.1.1.1 r h

-- no prefix is found
pub none_found : {Y : Type 0} (view : Y → Kind) (left : Y → List ℕ) (front : List ℕ) (r : Option Y) → ((kind : Kind) (rest : List ℕ) → ¬ (IsPrefixOf front kind rest)) → MatchOption r ((kind : Kind) (rest : List ℕ) → ¬ (IsPrefixOf front kind rest)) (λ y. IsPrefixOf front (view y) (left y)) → is_some r ≡ false
none_found view left front None n h = refl
none_found view left front (Some y) n h = absurd (n (view y) (left y) h)
