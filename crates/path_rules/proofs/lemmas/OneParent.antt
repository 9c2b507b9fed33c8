-- A path has one parent: two parts at its start that end tight, and have the same components, are one.
use Rattle.std.proofs.Common.{◌≡◌, ◌≢◌, ◌⊎◌, inl, inr, ℕ, Bool, true, false, List, [], ◌∷◌, ◌++◌, Option, Some, None, nat_eq, ◌&&◌, if◌then◌else◌, refl, sym, ap, ◌∙◌, subst, arith, append_assoc, append-nil}
use Rattle.std.proofs.lemmas.List.{same_from_push, append_cancel_left, append_cancel_right}
use Rattle.std.proofs.lemmas.List.Elements.{All-append, All-cons, filter_map-append}
use Rattle.std.specs.List.{slice_split, filter_map, cons_option, AllByRecursion}
use Rattle.std.proofs.lemmas.List.Splits.{slice_split_none}
use Rattle.path_rules.specs.declared.rules.Rules.{Rules}
use Rattle.path_rules.specs.declared.rules.Rules.TheVariants as rules
use Rattle.path_rules.specs.declared.rules.Style as whose
use Rattle.path_rules.specs.declared.rules.Style.TheVariants as style
use Rattle.path_rules.specs.declared.head.Start.{Start}
use Rattle.path_rules.specs.declared.head.Start.TheVariants.{Root, Dot, Nothing}
use Rattle.path_rules.specs.Separators.{separates, IsPlain, IsCut, IsField}
use Rattle.path_rules.specs.Component.{Item, Prefix, RootDir, CurDir, ParentDir, Normal, dot, named, components_in, EndsNamed}
use Rattle.path_rules.specs.Components.{AreComponents, prefixed, bare, start_of, after_start, root_of, after_root, plain_components}
use Rattle.path_rules.specs.Heads.{start_items}
use Rattle.path_rules.specs.Prefix.{Kind, rules_of}
use Rattle.path_rules.specs.Body.{HasBody, EndsTight, HasBodyAfter, IsEndTrimmed}
use Rattle.path_rules.specs.Parent.{IsParent}
use Rattle.path_rules.specs.Divided.{part_of}
use Rattle.path_rules.proofs.lemmas.Begins.{some_component}
use Rattle.path_rules.proofs.lemmas.Bodies.{IsSome, split_some, split_append, part_items, cut_items}
use Rattle.path_rules.proofs.lemmas.Divides.{named_part, named_below}
use Rattle.path_rules.proofs.lemmas.LastNames.{push_some}
use Rattle.path_rules.proofs.lemmas.OneList.{one_prefix, one_components}
use Rattle.path_rules.proofs.lemmas.Parents.{no_dot}
use Rattle.path_rules.proofs.lemmas.Totals.{some_field}

-- a list has a last part, or is empty
pub last_of : {X : Type 0} (xs : List X) → (xs ≡ []) ⊎ ((ys : List X) × ((x : X) × (xs ≡ ys ++ x ∷ [])))
last_of [] = inl refl
last_of {X} (x ∷ xs) = cases (last_of xs)
  where
    cases : (xs ≡ []) ⊎ ((ys : List X) × ((y : X) × (xs ≡ ys ++ y ∷ []))) → (x ∷ xs ≡ []) ⊎ ((ys : List X) × ((y : X) × (x ∷ xs ≡ ys ++ y ∷ [])))
    cases (inl e) = inr ([], (x, ap (λ z. x ∷ z) e))
    cases (inr l) = inr (x ∷ l.0, (l.1.0, ap (λ z. x ∷ z) l.1.1))

module _ (r : Rules) where
  -- s is one part, or is cut at its last separator
  data IsLastCut (s : List ℕ) : Type 0 where
    one : IsPlain r s → IsLastCut s
    two : (before part : List ℕ) → IsCut r s before part → IsPlain r part → IsLastCut s

  last_cut : (s : List ℕ) → IsLastCut s
  last_cut [] = one (λ k d l. absurd (omega arith))
  last_cut (b ∷ s) = cases (separates r b) refl (last_cut s)
    where
      cases : (v : Bool) → separates r b ≡ v → IsLastCut s → IsLastCut (b ∷ s)
      cases true e (one p) = two [] s (record { separator = b; joined = refl; parts = e }) p
      cases false e (one p) = one (All-cons (λ c. separates r c ≡ false) b s e p)
      cases v e (two before part c p) = two (b ∷ before) part (record { separator = c.separator; joined = ap (λ z. b ∷ z) c.joined; parts = c.parts }) p

  -- the last part names a component, also where all is one empty part
  abbrev LastNamed : List ℕ → Type 0
  LastNamed s = (parts : List (List ℕ)) (part : List ℕ) → slice_split (separates r) s ≡ parts ++ part ∷ [] → named r part ≢ None

  -- what names a component does so with more bytes
  named_longer : (p q : List ℕ) → named r p ≢ None → named r (p ++ q) ≢ None
  named_longer [] q h = absurd (h refl)
  named_longer (a ∷ []) [] h = h
  named_longer (a ∷ []) (b ∷ []) h = pair a b
    where
      pair : (a b : ℕ) → named r (a ∷ b ∷ []) ≢ None
      pair a b = cases (nat_eq a 0x2E && nat_eq b 0x2E)
        where
          cases : (v : Bool) → (if v then Some ParentDir else Some (Normal (a ∷ b ∷ []))) ≢ None
          cases true e = cc
          cases false e = cc
  named_longer (a ∷ []) (b ∷ c ∷ q) h = λ e. cc
  named_longer (a ∷ b ∷ []) [] h = h
  named_longer (a ∷ b ∷ []) (c ∷ q) h = λ e. cc
  named_longer (a ∷ b ∷ c ∷ p) q h = λ e. cc

  -- where the last part names a component, there is one
  some_last : (s : List ℕ) → LastNamed s → components_in r s ≢ []
  some_last s h = cases (last_of (slice_split (separates r) s))
    where
      cases : (slice_split (separates r) s ≡ []) ⊎ ((ps : List (List ℕ)) × ((p : List ℕ) × (slice_split (separates r) s ≡ ps ++ p ∷ []))) → components_in r s ≢ []
      cases (inl e) = let never : IsSome [] = subst IsSome e (split_some (separates r) s) in elim never [ ]
      cases (inr l) = λ e. item (named r l.1.0) refl (sym (ap (filter_map (named r)) l.1.1 ∙ filter_map-append (named r) l.0 (l.1.0 ∷ [])) ∙ e)
        where
          item : (o : Option Item) → named r l.1.0 ≡ o → filter_map (named r) l.0 ++ cons_option (named r l.1.0) [] ≡ [] → ⊥
          item None n e = h l.0 l.1.0 l.1.1 n
          item (Some x) n e = push_some (filter_map (named r) l.0) x (ap (λ o. filter_map (named r) l.0 ++ cons_option o []) (sym n) ∙ e)

  named_after : (s before after : List ℕ) → IsCut r s before after → LastNamed s → LastNamed after
  named_after s before after c h = λ parts part e.
      h (slice_split (separates r) before ++ parts) part (
      ap (slice_split (separates r)) c.joined ∙ split_append (separates r) before c.separator after c.parts
      ∙ ap (λ z. slice_split (separates r) before ++ z) e ∙ sym (append_assoc (slice_split (separates r) before) parts (part ∷ [])))

  -- what a part names is one component, which is that part
  part_item : (p : List ℕ) → IsPlain r p → named r p ≢ None → (x : Item) × ((components_in r p ≡ x ∷ []) × (part_of x ≡ p))
  part_item p plain h = cases (named r p) refl
    where
      cases : (o : Option Item) → named r p ≡ o → (x : Item) × ((components_in r p ≡ x ∷ []) × (part_of x ≡ p))
      cases None e = absurd (h e)
      cases (Some x) e = (x, (part_items r p plain ∙ ap (λ o. cons_option o []) e, named_part r p x e))

  -- a part that names a component, and more that names no other
  part_ends : (p x : List ℕ) → IsPlain r p → named r p ≢ None → LastNamed (p ++ x) → components_in r p ≡ components_in r (p ++ x) → x ≡ []
  part_ends p x plain h last e = cases f.0 f.1.0 f.1.1
    where
      f : (q : List ℕ) × ((rest : List ℕ) × IsField r x q rest)
      f = some_field r x

      one : (i : Item) × ((components_in r p ≡ i ∷ []) × (part_of i ≡ p))
      one = part_item p plain h

      cases : (q rest : List ℕ) → IsField r x q rest → x ≡ []
      cases q [] g =
          let same : x ≡ q = g.joined ∙ append-nil q in
          let all : IsPlain r (p ++ x) = All-append (λ b. separates r b ≡ false) p x plain (subst (IsPlain r) (sym same) g.plain) in
          let two = part_item (p ++ x) all (named_longer p x h) in
          let pair : one.0 ∷ [] ≡ two.0 ∷ [] = sym one.1.0 ∙ e ∙ two.1.0 in
          let item : one.0 ≡ two.0 = cc in
          append_cancel_left p x [] (sym two.1.1 ∙ ap part_of (sym item) ∙ one.1.1 ∙ sym (append-nil p))
      cases q (c ∷ rest) g =
          let all : IsPlain r (p ++ q) = All-append (λ b. separates r b ≡ false) p q plain g.plain in
          let two = part_item (p ++ q) all (named_longer p q h) in
          let cut : IsCut r (p ++ x) (p ++ q) rest = record { separator = c; joined = ap (λ z. p ++ z) g.joined ∙ sym (append_assoc p q (c ∷ rest)); parts = g.edge } in
          let long : one.0 ∷ [] ≡ two.0 ∷ components_in r rest = sym one.1.0 ∙ e ∙ cut_items r (p ++ x) (p ++ q) rest cut ∙ ap (λ z. z ++ components_in r rest) two.1.0 in
          let none : components_in r rest ≡ [] = cc in absurd (some_last rest (named_after (p ++ x) (p ++ q) rest cut last) none)

  -- a body that ends tight, and goes on, has more components
  tight_ends : (s x : List ℕ) → EndsNamed r s → EndsNamed r (s ++ x) → components_in r s ≡ components_in r (s ++ x) → x ≡ []
  tight_ends [] [] h k e = refl
  tight_ends [] (b ∷ x) h k e = absurd (some_last (b ∷ x) (λ parts part f. k parts part (λ z. cc) f) (sym e))
  tight_ends (b ∷ t) x h k e = cases (last_cut (b ∷ t))
    where
      s : List ℕ
      s = b ∷ t

      last : LastNamed s
      last parts part f = h parts part (λ z. cc) f

      more : LastNamed (s ++ x)
      more parts part f = k parts part (λ z. cc) f

      cases : IsLastCut s → x ≡ []
      cases (one p) = part_ends s x p (last [] s (slice_split_none (separates r) s p)) more e
      cases (two before part c p) =
          let cut : IsCut r (s ++ x) before (part ++ x) = record { separator = c.separator; joined = ap (λ z. z ++ x) c.joined ∙ append_assoc before (c.separator ∷ part) x; parts = c.parts } in
          let names : named r part ≢ None = named_after s before part c last [] part (slice_split_none (separates r) part p) in
          part_ends part x p names (named_after (s ++ x) before (part ++ x) cut more) (append_cancel_left (components_in r before) (components_in r part) (components_in r (part ++ x)) (sym (cut_items r s before part c) ∙ e ∙ cut_items r (s ++ x) before (part ++ x) cut))

-- the components of a body: all but a prefix, a root, and a `.` at the start
abbrev low : List Item → List Item
low [] = []
low (Prefix s ∷ []) = []
low (Prefix s ∷ RootDir ∷ xs) = xs
low (Prefix s ∷ Prefix t ∷ xs) = Prefix t ∷ xs
low (Prefix s ∷ CurDir ∷ xs) = CurDir ∷ xs
low (Prefix s ∷ ParentDir ∷ xs) = ParentDir ∷ xs
low (Prefix s ∷ Normal t ∷ xs) = Normal t ∷ xs
low (RootDir ∷ xs) = xs
low (CurDir ∷ xs) = xs
low (ParentDir ∷ xs) = ParentDir ∷ xs
low (Normal s ∷ xs) = Normal s ∷ xs

module _ (r : Rules) where
  -- a part names neither a prefix nor a root, and a `.` only by rules that keep it
  abbrev IsLow : Item → Type 0
  IsLow (Prefix s) = ⊥
  IsLow RootDir = ⊥
  IsLow CurDir = dot r ≢ None
  IsLow ParentDir = Unit {0}
  IsLow (Normal s) = Unit {0}

  no_dot_named : (p : List ℕ) → named r p ≡ Some CurDir → dot r ≢ None
  no_dot_named [] e n = cc
  no_dot_named (a ∷ []) e n = cases (nat_eq a 0x2E) e
    where
      cases : (v : Bool) → (if v then dot r else Some (Normal (a ∷ []))) ≡ Some CurDir → ⊥
      cases true f = let never : None ≡ Some CurDir = sym n ∙ f in cc
      cases false f = cc
  no_dot_named (a ∷ b ∷ []) e n = cases (nat_eq a 0x2E && nat_eq b 0x2E) e
    where
      cases : (v : Bool) → (if v then Some ParentDir else Some (Normal (a ∷ b ∷ []))) ≡ Some CurDir → ⊥
      cases true f = cc
      cases false f = cc
  no_dot_named (a ∷ b ∷ c ∷ p) e n = cc

  all_low : (ps : List (List ℕ)) → AllByRecursion IsLow (filter_map (named r) ps)
  all_low [] = tt
  all_low (p ∷ ps) = cases (named r p) refl (all_low ps)
    where
      cases : (o : Option Item) → named r p ≡ o → AllByRecursion IsLow (filter_map (named r) ps) → AllByRecursion IsLow (cons_option o (filter_map (named r) ps))
      cases None e h = h
      cases (Some (Prefix s)) e h = absurd (named_below r p (Prefix s) e)
      cases (Some RootDir) e h = absurd (named_below r p RootDir e)
      cases (Some CurDir) e h = (no_dot_named p e, h)
      cases (Some ParentDir) e h = (tt, h)
      cases (Some (Normal s)) e h = (tt, h)

  low_stays : dot r ≡ None → (xs : List Item) → AllByRecursion IsLow xs → low xs ≡ xs
  low_stays n [] h = refl
  low_stays n (Prefix s ∷ xs) h = absurd h.0
  low_stays n (RootDir ∷ xs) h = absurd h.0
  low_stays n (CurDir ∷ xs) h = absurd (h.0 n)
  low_stays n (ParentDir ∷ xs) h = refl
  low_stays n (Normal s ∷ xs) h = refl

  low_after : (raw : List ℕ) (xs : List Item) → AllByRecursion IsLow xs → low (Prefix raw ∷ xs) ≡ xs
  low_after raw [] h = refl
  low_after raw (Prefix s ∷ xs) h = absurd h.0
  low_after raw (RootDir ∷ xs) h = absurd h.0
  low_after raw (CurDir ∷ xs) h = refl
  low_after raw (ParentDir ∷ xs) h = refl
  low_after raw (Normal s ∷ xs) h = refl

  low_bare : dot r ≡ None → (s : List ℕ) → low (plain_components r s) ≡ components_in r (after_start (start_of r s) s)
  low_bare n s = cases (start_of r s) (after_start (start_of r s) s)
    where
      cases : (st : Start) (body : List ℕ) → low (start_items st ++ components_in r body) ≡ components_in r body
      cases Root body = refl
      cases Dot body = refl
      cases Nothing body = low_stays n (components_in r body) (all_low (slice_split (separates r) body))

low_prefixed : (kind : Kind) (raw rest : List ℕ) → low (Prefix raw ∷ (start_items (root_of kind rest) ++ components_in (rules_of kind) (after_root rest))) ≡ components_in (rules_of kind) (after_root rest)
low_prefixed kind raw rest = cases (root_of kind rest) refl
  where
    r : Rules
    r = rules_of kind

    body : List ℕ
    body = after_root rest

    cases : (st : Start) → root_of kind rest ≡ st → low (Prefix raw ∷ (start_items st ++ components_in r body)) ≡ components_in r body
    cases Root e = refl
    cases Dot e = absurd (no_dot kind rest e)
    cases Nothing e = low_after r raw (components_in r body) (all_low r (slice_split (separates r) body))

-- the body's components are those of the path
body_items : (w : whose.Style) (s : List ℕ) (r : Rules) (body : List ℕ) (xs : List Item) → HasBody w s r body → AreComponents w s xs → low xs ≡ components_in r body
body_items style.Unix s r body xs h a = ap low a ∙ low_bare rules.Slash refl s ∙ ap (components_in rules.Slash) (sym h.is) ∙ ap (λ q. components_in q body) (sym h.rules)
body_items style.Windows s r body xs (inl h) (prefixed a) =
    let same = one_prefix s a.kind h.kind a.rest h.rest a.prefix h.prefix in
    ap low a.are ∙ low_prefixed a.kind a.raw a.rest ∙ ap (λ k. components_in (rules_of k) (after_root a.rest)) same.0 ∙ ap (λ t. components_in (rules_of h.kind) (after_root t)) same.1
    ∙ ap (components_in (rules_of h.kind)) (sym h.is) ∙ ap (λ q. components_in q body) (sym h.rules)
body_items style.Windows s r body xs (inl h) (bare a) = absurd (a.none h.kind h.rest h.prefix)
body_items style.Windows s r body xs (inr h) (prefixed a) = absurd (h.0 a.kind a.rest a.prefix)
body_items style.Windows s r body xs (inr h) (bare a) = ap low a.are ∙ low_bare rules.Either refl s ∙ ap (components_in rules.Either) (sym h.1.is) ∙ ap (λ q. components_in q body) (sym h.1.rules)

one_body : (w : whose.Style) (s : List ℕ) (q r : Rules) (b c : List ℕ) → HasBody w s q b → HasBody w s r c → (q ≡ r) × (b ≡ c)
one_body style.Unix s q r b c h k = (h.rules ∙ sym k.rules, h.is ∙ sym k.is)
one_body style.Windows s q r b c (inl h) (inl k) =
    let same = one_prefix s h.kind k.kind h.rest k.rest h.prefix k.prefix in (h.rules ∙ ap rules_of same.0 ∙ sym k.rules, h.is ∙ ap after_root same.1 ∙ sym k.is)
one_body style.Windows s q r b c (inl h) (inr k) = absurd (k.0 h.kind h.rest h.prefix)
one_body style.Windows s q r b c (inr h) (inl k) = absurd (h.0 k.kind k.rest k.prefix)
one_body style.Windows s q r b c (inr h) (inr k) = (h.1.rules ∙ sym k.1.rules, h.1.is ∙ sym k.1.is)

-- the end of the path is the end of its body
tight_named : (w : whose.Style) (s : List ℕ) (r : Rules) (body : List ℕ) → HasBody w s r body → EndsTight w s → EndsNamed r body
tight_named w s r body h t =
    let same = one_body w s t.rules r t.body body t.has h in subst (EndsNamed r) same.1 (subst (λ q. EndsNamed q t.body) same.0 t.named)

-- of two parts at the start of a list one goes on as the other
data GoesOn (s t a b : List ℕ) : Type 0 where
  goes_on : (x : List ℕ) → t ≡ s ++ x → a ≡ x ++ b → GoesOn s t a b

one_goes_on : (s t a b : List ℕ) → s ++ a ≡ t ++ b → GoesOn s t a b ⊎ GoesOn t s b a
one_goes_on [] t a b e = inl (goes_on t refl e)
one_goes_on (c ∷ s) [] a b e = inr (goes_on (c ∷ s) refl (sym e))
one_goes_on (c ∷ s) (d ∷ t) a b e = later (one_goes_on s t a b rest)
  where
    first : c ≡ d
    first = cc

    rest : s ++ a ≡ t ++ b
    rest = cc

    later : GoesOn s t a b ⊎ GoesOn t s b a → GoesOn (c ∷ s) (d ∷ t) a b ⊎ GoesOn (d ∷ t) (c ∷ s) b a
    later (inl (goes_on x f g)) = inl (goes_on x (ap (λ z. d ∷ z) f ∙ ap (λ z. z ∷ (s ++ x)) (sym first)) g)
    later (inr (goes_on x f g)) = inr (goes_on x (ap (λ z. c ∷ z) f ∙ ap (λ z. z ∷ (t ++ x)) first) g)

module _ (w : whose.Style) (path : List ℕ) where
  longer_same : (s t a b : List ℕ) (xs : List Item) → GoesOn s t a b → HasBodyAfter w path s a → HasBodyAfter w path t b → EndsTight w s → EndsTight w t → AreComponents w s xs → AreComponents w t xs → s ≡ t
  longer_same s t a b xs (goes_on x f g) h k u v are other =
      let same = one_body w path h.rules k.rules h.body k.body h.has k.has in
      let left = subst (λ q. HasBody w s q h.left) same.0 h.has_left in
      let bodies : k.left ≡ h.left ++ x = append_cancel_right k.left (h.left ++ x) b (sym k.joined ∙ sym same.1 ∙ h.joined ∙ ap (λ z. h.left ++ z) g ∙ sym (append_assoc h.left x b)) in
      let items : components_in k.rules h.left ≡ components_in k.rules (h.left ++ x) = sym (body_items w s k.rules h.left xs left are) ∙ body_items w t k.rules k.left xs k.has_left other ∙ ap (components_in k.rules) bodies in
      let none = tight_ends k.rules h.left x (tight_named w s k.rules h.left left u) (subst (EndsNamed k.rules) bodies (tight_named w t k.rules k.left k.has_left v)) items in
      sym (f ∙ ap (λ z. s ++ z) none ∙ append-nil s)

  one_front : (s t a b : List ℕ) (xs : List Item) → path ≡ s ++ a → path ≡ t ++ b → HasBodyAfter w path s a → HasBodyAfter w path t b → EndsTight w s → EndsTight w t → AreComponents w s xs → AreComponents w t xs → s ≡ t
  one_front s t a b xs e f h k u v are other = cases (one_goes_on s t a b (sym e ∙ f))
    where
      cases : GoesOn s t a b ⊎ GoesOn t s b a → s ≡ t
      cases (inl g) = longer_same s t a b xs g h k u v are other
      cases (inr g) = sym (longer_same t s b a xs g k h v u other are)

  pub one_trimmed : (s t : List ℕ) → IsEndTrimmed w path s → IsEndTrimmed w path t → s ≡ t
  one_trimmed s t h k =
      one_front s t h.after k.after k.items h.joined k.joined h.within k.within h.tight k.tight (subst (AreComponents w s) (one_components w path h.items k.items h.whole k.whole) h.are) k.are

  pub one_parent : (s t : List ℕ) → IsParent w path s → IsParent w path t → s ≡ t
  one_parent s t h k = cases h.within k.within
    where
      items : h.items ≡ k.items
      items = (same_from_push h.items k.items h.last k.last (one_components w path (h.items ++ h.last ∷ []) (k.items ++ k.last ∷ []) h.whole k.whole)).0

      are : AreComponents w s k.items
      are = subst (AreComponents w s) items h.are

      both_empty : k.items ≡ [] → s ≡ t
      both_empty e = some_component w s (subst (AreComponents w s) e are) ∙ sym (some_component w t (subst (AreComponents w t) e k.are))

      cases : HasBodyAfter w path s h.after ⊎ ((h.items ≡ []) × (h.last ≡ CurDir)) → HasBodyAfter w path t k.after ⊎ ((k.items ≡ []) × (k.last ≡ CurDir)) → s ≡ t
      cases (inl u) (inl v) = one_front s t h.after k.after k.items h.joined k.joined u v h.tight k.tight are k.are
      cases (inl u) (inr v) = both_empty v.0
      cases (inr u) v = both_empty (sym items ∙ u.0)
