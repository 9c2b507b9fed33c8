-- A path after a part that it follows: the components of both.
use Rattle.std.proofs.Common.{◌≡◌, ◌⊎◌, inl, inr, ℕ, Bool, true, false, ◌&&◌, nat_eq, if◌then◌else◌, List, [], ◌∷◌, ◌++◌, Option, Some, None, refl, sym, ap, ◌∙◌, subst, append_assoc, append-nil, eqb-true}
use Rattle.std.specs.List.{slice_split, filter_map, cons_option}
use Rattle.std.proofs.lemmas.List.Elements.{All-cons, All-nil}
use Rattle.path_rules.specs.declared.rules.Rules.{Rules}
use Rattle.path_rules.specs.declared.rules.Rules.TheVariants as rules
use Rattle.path_rules.specs.declared.head.Start.{Start}
use Rattle.path_rules.specs.declared.head.Start.TheVariants.{Root, Dot, Nothing}
use Rattle.path_rules.specs.Separators.{separates, Edge}
use Rattle.path_rules.specs.Component.{Item, Prefix, RootDir, CurDir, ParentDir, Normal, dot, named, components_in}
use Rattle.path_rules.specs.Heads.{start_items}
use Rattle.path_rules.specs.Components.{start_of, after_start, plain_components}
use Rattle.path_rules.specs.Root.{BeginsWithSeparator}
use Rattle.path_rules.specs.Trailing.{EndsWithSeparator}
use Rattle.path_building.specs.Join.{without_dot}
use Rattle.path_rules.proofs.lemmas.Bodies.{cut_items, no_item}
use Rattle.path_rules.proofs.lemmas.Starts.{same_start, with_root, is_root, items_at}

empty_right : (x y : List ℕ) → x ++ y ≡ [] → y ≡ []
empty_right [] y e = e
empty_right (a ∷ x) y e = cc

is_false : (v : Bool) → (v ≡ true → ⊥) → v ≡ false
is_false true h = absurd (h refl)
is_false false h = refl

only_last : (b : ℕ) (before : List ℕ) (last : ℕ) → b ∷ [] ≡ before ++ last ∷ [] → last ≡ b
only_last b [] last e = cc
only_last b (c ∷ before) last e = let later : [] ≡ before ++ last ∷ [] = cc in absurd (never before later)
  where
    never : (xs : List ℕ) → [] ≡ xs ++ last ∷ [] → ⊥
    never [] h = cc
    never (x ∷ xs) h = cc

module _ (r : Rules) where
  -- what follows s: a separator and the path, or the path alone where s is empty or ends with a separator
  pub data Follows (s tail path : List ℕ) : Type 0 where
    apart : (c : ℕ) → separates r c ≡ true → tail ≡ c ∷ path → Follows s tail path
    beside : tail ≡ path → (s ≡ []) ⊎ EndsWithSeparator r s → Follows s tail path

  pub suffix_ends : (x y : List ℕ) → EndsWithSeparator r (x ++ y) → (y ≡ []) ⊎ EndsWithSeparator r y
  suffix_ends [] y h = inr h
  suffix_ends (a ∷ x) y h = step h.before h.joined (suffix_ends x y)
    where
      step : (before : List ℕ) → a ∷ (x ++ y) ≡ before ++ h.last ∷ [] → (EndsWithSeparator r (x ++ y) → (y ≡ []) ⊎ EndsWithSeparator r y) → (y ≡ []) ⊎ EndsWithSeparator r y
      step [] e more = let none : x ++ y ≡ [] = cc in inl (empty_right x y none)
      step (p ∷ before) e more = let later : x ++ y ≡ before ++ h.last ∷ [] = cc in more (record { before = before; last = h.last; joined = later; is = h.is })

  -- the components of both
  pub body_items : (z tail path : List ℕ) → Follows z tail path → components_in r (z ++ tail) ≡ components_in r z ++ components_in r path
  body_items z tail path (apart c sep e) = cut_items r (z ++ tail) z path (record { separator = c; joined = ap (λ x. z ++ x) e; parts = sep })
  body_items z tail path (beside e (inl n)) = ap (λ x. components_in r (x ++ tail)) n ∙ ap (components_in r) e ∙ sym (ap (λ x. components_in r x ++ components_in r path) n)
  body_items z tail path (beside e (inr h)) =
      cut_items r (z ++ tail) h.before path (record { separator = h.last; joined = ap (λ x. x ++ tail) h.joined ∙ append_assoc h.before (h.last ∷ []) tail ∙ ap (λ x. h.before ++ h.last ∷ x) e; parts = h.is })
      ∙ ap (λ x. x ++ components_in r path) (sym (append-nil (components_in r h.before)) ∙ sym (cut_items r z h.before [] (record { separator = h.last; joined = h.joined; parts = h.is })))

  after_tail : (st : Start) (b : ℕ) (s tail : List ℕ) → after_start st (b ∷ (s ++ tail)) ≡ after_start st (b ∷ s) ++ tail
  after_tail Nothing b s tail = refl
  after_tail Root b s tail = refl
  after_tail Dot b s tail = refl

  start_tail : (b : ℕ) (s tail path : List ℕ) → Follows (b ∷ s) tail path → start_of r (b ∷ (s ++ tail)) ≡ start_of r (b ∷ s)
  start_tail b s tail path (apart c sep e) = same_start r b s tail (subst (Edge r) (sym e) sep)
  start_tail b s tail path (beside e (inl n)) = cc
  start_tail b [] tail path (beside e (inr h)) =
      let last : separates r b ≡ true = subst (λ x. separates r x ≡ true) (only_last b h.before h.last h.joined) h.is in
      with_root r b tail last ∙ sym (with_root r b [] last)
  start_tail b (c ∷ s) tail path (beside e (inr h)) = refl

  after_follows : (st : Start) (b : ℕ) (s tail path : List ℕ) → Follows (b ∷ s) tail path → Follows (after_start st (b ∷ s)) tail path
  after_follows st b s tail path (apart c sep e) = apart c sep e
  after_follows Nothing b s tail path (beside e h) = beside e h
  after_follows Root b s tail path (beside e (inl n)) = cc
  after_follows Root b s tail path (beside e (inr h)) = beside e (suffix_ends (b ∷ []) s h)
  after_follows Dot b s tail path (beside e (inl n)) = cc
  after_follows Dot b s tail path (beside e (inr h)) = beside e (suffix_ends (b ∷ []) s h)

  pub plain_items : (b : ℕ) (s tail path : List ℕ) → Follows (b ∷ s) tail path → plain_components r (b ∷ (s ++ tail)) ≡ plain_components r (b ∷ s) ++ components_in r path
  plain_items b s tail path f =
      let st = start_of r (b ∷ s) in
      items_at r (b ∷ (s ++ tail)) st (start_tail b s tail path f) ∙ ap (λ x. start_items st ++ components_in r x) (after_tail st b s tail)
      ∙ ap (λ x. start_items st ++ x) (body_items (after_start st (b ∷ s)) tail path (after_follows st b s tail path f))
      ∙ sym (append_assoc (start_items st) (components_in r (after_start st (b ∷ s))) (components_in r path))

  -- a component that isn't `.`, at the start
  starts_so : (o : Option Item) (xs : List Item) → (o ≡ Some CurDir → ⊥) → without_dot xs ≡ xs → without_dot (cons_option o xs) ≡ cons_option o xs
  starts_so None xs h e = e
  starts_so (Some (Prefix s)) xs h e = refl
  starts_so (Some RootDir) xs h e = refl
  starts_so (Some CurDir) xs h e = absurd (h refl)
  starts_so (Some ParentDir) xs h e = refl
  starts_so (Some (Normal s)) xs h e = refl

  neither : (b : Bool) (x y : Option Item) → (x ≡ Some CurDir → ⊥) → (y ≡ Some CurDir → ⊥) → (if b then x else y) ≡ Some CurDir → ⊥
  neither true x y f g e = f e
  neither false x y f g e = g e

  -- where `.` names nothing
  module _ (no_dot : dot r ≡ None) where
    not_dot : (p : List ℕ) → named r p ≡ Some CurDir → ⊥
    not_dot [] e = cc
    not_dot (a ∷ []) e = neither (nat_eq a 0x2E) (dot r) (Some (Normal (a ∷ []))) (λ h. let never : None ≡ Some CurDir = sym no_dot ∙ h in cc) (λ h. cc) e
    not_dot (a ∷ b ∷ []) e = neither (nat_eq a 0x2E && nat_eq b 0x2E) (Some ParentDir) (Some (Normal (a ∷ b ∷ []))) (λ h. cc) (λ h. cc) e
    not_dot (a ∷ b ∷ c ∷ s) e = cc

    pub still : (ps : List (List ℕ)) → without_dot (filter_map (named r) ps) ≡ filter_map (named r) ps
    still [] = refl
    still (p ∷ ps) = starts_so (named r p) (filter_map (named r) ps) (not_dot p) (still ps)

    no_separator : (q : Rules) → separates q 0x2E ≡ false
    no_separator rules.Slash = refl
    no_separator rules.Either = refl
    no_separator rules.Verbatim = refl

    dot_alone : components_in r (0x2E ∷ []) ≡ []
    dot_alone = no_item r (0x2E ∷ []) (All-cons (λ b. separates r b ≡ false) 0x2E [] (no_separator r) (All-nil (λ b. separates r b ≡ false))) (sym no_dot)

    dot_body : (u : List ℕ) → Edge r u → components_in r (0x2E ∷ u) ≡ components_in r u
    dot_body [] h = dot_alone
    dot_body (c ∷ v) h =
        cut_items r (0x2E ∷ c ∷ v) (0x2E ∷ []) v (record { separator = c; joined = refl; parts = h }) ∙ ap (λ x. x ++ components_in r v) dot_alone
        ∙ sym (cut_items r (c ∷ v) [] v (record { separator = c; joined = refl; parts = h }))

    starts_with_dot : (b : ℕ) (u : List ℕ) → start_of r (b ∷ u) ≡ Dot → (b ≡ 0x2E) × Edge r u
    starts_with_dot b [] e = (eqb-true b 0x2E (alone (separates r b) (nat_eq b 0x2E) e), tt)
      where
        alone : (p q : Bool) → (if p then Root else (if q then Dot else Nothing)) ≡ Dot → q ≡ true
        alone true q h = let never : Root ≡ Dot = h in cc
        alone false true h = refl
        alone false false h = let never : Nothing ≡ Dot = h in cc
    starts_with_dot b (c ∷ v) e = let both = choice (separates r b) (nat_eq b 0x2E) (separates r c) e in (eqb-true b 0x2E (both.0), both.1)
      where
        choice : (p q w : Bool) → (if p then Root else (if q && w then Dot else Nothing)) ≡ Dot → (q ≡ true) × (w ≡ true)
        choice true q w h = let never : Root ≡ Dot = h in cc
        choice false true true h = (refl, refl)
        choice false true false h = let never : Nothing ≡ Dot = h in cc
        choice false false w h = let never : Nothing ≡ Dot = h in cc

    -- the components of a path that begins with no separator, where it follows another
    pub relative_items : (t : List ℕ) → ¬ (BeginsWithSeparator r t) → components_in r t ≡ without_dot (plain_components r t)
    relative_items [] h = refl
    relative_items (b ∷ u) h = cases (start_of r (b ∷ u)) refl
      where
        cases : (st : Start) → start_of r (b ∷ u) ≡ st → components_in r (b ∷ u) ≡ without_dot (plain_components r (b ∷ u))
        cases Root e = absurd (is_root r b u e (is_false (separates r b) h))
        cases Nothing e = sym (still (slice_split (separates r) (b ∷ u))) ∙ sym (ap without_dot (items_at r (b ∷ u) Nothing e))
        cases Dot e =
            let d = starts_with_dot b u e in
            ap (λ x. components_in r (x ∷ u)) d.0 ∙ dot_body u d.1 ∙ sym (ap without_dot (items_at r (b ∷ u) Dot e))
