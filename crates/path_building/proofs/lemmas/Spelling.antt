-- Names that are written with separators between them are read again.
use Rattle.std.proofs.Common.{◌≡◌, ℕ, Bool, true, false, ◌&&◌, nat_eq, if◌then◌else◌, List, [], ◌∷◌, ◌++◌, Option, Some, None, refl, sym, ap, ◌∙◌, subst, arith, append-nil, eqb-true}
use Rattle.std.specs.List.{AllByRecursion, slice_split, onto_first, filter_map, cons_option}
use Rattle.std.proofs.lemmas.List.Elements.{All-head, All-tail, All-cons}
use Rattle.std.proofs.lemmas.List.Splits.{slice_split-cons_yes, slice_split-cons_no}
use Rattle.path_rules.specs.declared.rules.Rules.{Rules}
use Rattle.path_rules.specs.declared.rules.Rules.TheVariants.{Slash, Either, Verbatim}
use Rattle.path_rules.specs.declared.head.Start.TheVariants.{Root, Dot, Nothing}
use Rattle.path_rules.specs.Separators.{separates, IsPlain, IsCut, Edge}
use Rattle.path_rules.specs.Component.{Item, CurDir, ParentDir, Normal, dot, named, components_in}
use Rattle.path_rules.specs.Components.{start_of}
use Rattle.path_building.specs.Written.{spelling, more_names, joined_names}
use Rattle.path_building.specs.Spelled.{IsSpelled, AreSpelled}
use Rattle.path_rules.proofs.lemmas.Bodies.{one_item, first_item, no_first_item}
use Rattle.path_rules.proofs.lemmas.Edges.{and_true}
use Rattle.path_rules.proofs.lemmas.Starts.{same_start}

dot_spelled : (r : Rules) (x : Item) → dot r ≡ Some x → spelling x ≡ 0x2E ∷ []
dot_spelled Slash x e = cc
dot_spelled Either x e = cc
dot_spelled Verbatim x e = let s : CurDir ≡ x = cc in ap spelling (sym s)

one_spelled : (r : Rules) (a : ℕ) (x : Item) (v : Bool) → nat_eq a 0x2E ≡ v → (if v then dot r else Some (Normal (a ∷ []))) ≡ Some x → spelling x ≡ a ∷ []
one_spelled r a x true e f = let is : a ≡ 0x2E = eqb-true a 0x2E e in dot_spelled r x f ∙ ap (λ z. z ∷ []) (sym is)
one_spelled r a x false e f = let s : Normal (a ∷ []) ≡ x = cc in ap spelling (sym s)

two_spelled : (a b : ℕ) (x : Item) (v : Bool) → (nat_eq a 0x2E && nat_eq b 0x2E) ≡ v → (if v then Some ParentDir else Some (Normal (a ∷ b ∷ []))) ≡ Some x → spelling x ≡ a ∷ b ∷ []
two_spelled a b x true e f =
    let both = and_true (nat_eq a 0x2E) (nat_eq b 0x2E) e in
    let first : a ≡ 0x2E = eqb-true a 0x2E both.0 in
    let second : b ≡ 0x2E = eqb-true b 0x2E both.1 in
    let s : ParentDir ≡ x = cc in ap spelling (sym s) ∙ ap (λ z. z ∷ 0x2E ∷ []) (sym first) ∙ ap (λ z. a ∷ z ∷ []) (sym second)
two_spelled a b x false e f = let s : Normal (a ∷ b ∷ []) ≡ x = cc in ap spelling (sym s)

-- a component is written as the part that named it
pub named_spelled : (r : Rules) (p : List ℕ) (x : Item) → named r p ≡ Some x → spelling x ≡ p
named_spelled r [] x e = cc
named_spelled r (a ∷ []) x e = one_spelled r a x (nat_eq a 0x2E) refl e
named_spelled r (a ∷ b ∷ []) x e = two_spelled a b x (nat_eq a 0x2E && nat_eq b 0x2E) refl e
named_spelled r (a ∷ b ∷ c ∷ p) x e = let s : Normal (a ∷ b ∷ c ∷ p) ≡ x = cc in ap spelling (sym s)

none_plain : (r : Rules) → IsPlain r []
none_plain r = λ k d l. absurd (omega arith)

module _ (r : Rules) where
  onto_plain : (b : ℕ) (ps : List (List ℕ)) → separates r b ≡ false → AllByRecursion (IsPlain r) ps → AllByRecursion (IsPlain r) (onto_first b ps)
  onto_plain b [] e h = (All-cons (λ c. separates r c ≡ false) b [] e (none_plain r), tt)
  onto_plain b (p ∷ ps) e h = (All-cons (λ c. separates r c ≡ false) b p e h.0, h.1)

  -- no part has a separator
  parts_plain : (s : List ℕ) → AllByRecursion (IsPlain r) (slice_split (separates r) s)
  parts_plain [] = (none_plain r, tt)
  parts_plain (b ∷ s) = cases (separates r b) refl (parts_plain s)
    where
      cases : (v : Bool) → separates r b ≡ v → AllByRecursion (IsPlain r) (slice_split (separates r) s) → AllByRecursion (IsPlain r) (slice_split (separates r) (b ∷ s))
      cases true e h = subst (AllByRecursion (IsPlain r)) (sym (slice_split-cons_yes (separates r) b s e)) (none_plain r, h)
      cases false e h = subst (AllByRecursion (IsPlain r)) (sym (slice_split-cons_no (separates r) b s e)) (onto_plain b (slice_split (separates r) s) e h)

  add_spelled : (p : List ℕ) (o : Option Item) (xs : List Item) → named r p ≡ o → IsPlain r p → AreSpelled r xs → AreSpelled r (cons_option o xs)
  add_spelled p None xs e h k = k
  add_spelled p (Some x) xs e h k =
      let s : spelling x ≡ p = named_spelled r p x e in
      (record { plain = subst (IsPlain r) (sym s) h; names = ap (named r) s ∙ e }, k)

  names_spelled : (ps : List (List ℕ)) → AllByRecursion (IsPlain r) ps → AreSpelled r (filter_map (named r) ps)
  names_spelled [] h = tt
  names_spelled (p ∷ ps) h = add_spelled p (named r p) (filter_map (named r) ps) refl h.0 (names_spelled ps h.1)

  -- the components of a body are spelled
  pub body_spelled : (s : List ℕ) → AreSpelled r (components_in r s)
  body_spelled s = names_spelled (slice_split (separates r) s) (parts_plain s)

  module _ (c : ℕ) (sep : separates r c ≡ true) where
    -- and read again
    pub spelled_again : (xs : List Item) → AreSpelled r xs → components_in r (joined_names c xs) ≡ xs
    spelled_again [] h = refl
    spelled_again (x ∷ []) h = ap (components_in r) (append-nil (spelling x)) ∙ one_item r (spelling x) x h.0.plain (sym h.0.names)
    spelled_again (x ∷ y ∷ xs) h =
        let after = joined_names c (y ∷ xs) in
        let cut : IsCut r (spelling x ++ c ∷ after) (spelling x) after = record { separator = c; joined = refl; parts = sep } in
        first_item r (spelling x ++ c ∷ after) (spelling x) after x (cut, h.0.plain) (sym h.0.names) ∙ ap (λ z. x ∷ z) (spelled_again (y ∷ xs) h.1)

    -- also after a separator
    pub after_separator : (s : List ℕ) → components_in r (c ∷ s) ≡ components_in r s
    after_separator s =
        let cut : IsCut r (c ∷ s) [] s = record { separator = c; joined = refl; parts = sep } in
        no_first_item r (c ∷ s) [] s (cut, none_plain r) refl

    pub more_edge : (xs : List Item) → Edge r (more_names c xs)
    more_edge [] = tt
    more_edge (x ∷ xs) = sep

  -- a path that begins with a name starts with nothing
  name_start : (b : ℕ) (t : List ℕ) (x : Item) → dot r ≡ None → IsPlain r (b ∷ t) → named r (b ∷ t) ≡ Some x → start_of r (b ∷ t) ≡ Nothing
  name_start b [] x d h e = both (separates r b) (nat_eq b 0x2E) (All-head (λ c. separates r c ≡ false) b [] h) e
    where
      both : (p q : Bool) → p ≡ false → (if q then dot r else Some (Normal (b ∷ []))) ≡ Some x → (if p then Root else (if q then Dot else Nothing)) ≡ Nothing
      both true q f g = let never : true ≡ false = f in cc
      both false true f g = let never : None ≡ Some x = sym d ∙ g in cc
      both false false f g = refl
  name_start b (c ∷ t) x d h e =
      let first : separates r b ≡ false = All-head (λ k. separates r k ≡ false) b (c ∷ t) h in
      let second : separates r c ≡ false = All-head (λ k. separates r k ≡ false) c t (All-tail (λ k. separates r k ≡ false) b (c ∷ t) h) in
      both (separates r b) (nat_eq b 0x2E) (separates r c) first second
    where
      both : (p q w : Bool) → p ≡ false → w ≡ false → (if p then Root else (if q && w then Dot else Nothing)) ≡ Nothing
      both true q w f g = let never : true ≡ false = f in cc
      both false true true f g = let never : true ≡ false = g in cc
      both false true false f g = refl
      both false false w f g = refl

  -- a name isn't empty
  pub record HasFirst (x : Item) : Type 0 where
    pub first : ℕ
    pub later : List ℕ
    pub spells : spelling x ≡ first ∷ later
    pub plain : separates r first ≡ false

  pub has_first : (x : Item) → IsSpelled r x → HasFirst x
  has_first x h = cases (spelling x) refl h.plain h.names
    where
      cases : (p : List ℕ) → spelling x ≡ p → IsPlain r p → named r p ≡ Some x → HasFirst x
      cases [] e q n = let never : None ≡ Some x = n in cc
      cases (b ∷ p) e q n = record { first = b; later = p; spells = e; plain = All-head (λ k. separates r k ≡ false) b p q }

  pub names_start : (c : ℕ) → separates r c ≡ true → dot r ≡ None → (xs : List Item) → AreSpelled r xs → start_of r (joined_names c xs) ≡ Nothing
  names_start c sep d [] h = refl
  names_start c sep d (x ∷ xs) h =
      let f = has_first x h.0 in
      ap (λ z. start_of r (z ++ more_names c xs)) f.spells
      ∙ same_start r f.first f.later (more_names c xs) (more_edge c sep xs)
      ∙ name_start f.first f.later x d (subst (IsPlain r) f.spells h.0.plain) (ap (named r) (sym f.spells) ∙ h.0.names)
