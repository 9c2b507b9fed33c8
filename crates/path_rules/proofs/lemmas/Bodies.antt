-- The components of what follows the root, from both ends.
use Rattle.std.proofs.Common.{◌≡◌, ℕ, Bool, true, false, List, [], ◌∷◌, ◌++◌, Some, None, refl, sym, ap, ◌∙◌, subst, append-nil, append_assoc}
use Rattle.std.proofs.lemmas.List.{same_from_push}
use Rattle.std.proofs.lemmas.List.Elements.{filter_map-append}
use Rattle.std.proofs.lemmas.List.Splits.{slice_split-cons_yes, slice_split-cons_no, slice_split_none}
use Rattle.std.specs.List.{slice_split, onto_first, filter_map, cons_option}
use Rattle.path_rules.specs.declared.rules.Rules.{Rules}
use Rattle.path_rules.specs.Separators.{separates, IsPlain, IsCut, IsUpTo}
use Rattle.path_rules.specs.Component.{Item, named, components_in, EndsNamed}
use Rattle.path_rules.specs.HeadParts.{IsLastPart}

-- a list of parts isn't empty
pub data IsSome {X : Type 0} : List X → Type 0 where
  some : {x : X} {xs : List X} → IsSome (x ∷ xs)

onto_some : {X : Type 0} (x : X) (ps : List (List X)) → IsSome (onto_first x ps)
onto_some x [] = some
onto_some x (p ∷ ps) = some

pub split_some : {X : Type 0} (p : X → Bool) (xs : List X) → IsSome (slice_split p xs)
split_some p [] = some
split_some p (x ∷ xs) = cases (p x) refl
  where
    cases : (b : Bool) → p x ≡ b → IsSome (slice_split p (x ∷ xs))
    cases true e = subst IsSome (sym (slice_split-cons_yes p x xs e)) some
    cases false e = subst IsSome (sym (slice_split-cons_no p x xs e)) (onto_some x (slice_split p xs))

onto_append : {X : Type 0} (x : X) (ps qs : List (List X)) → IsSome ps → onto_first x (ps ++ qs) ≡ onto_first x ps ++ qs
onto_append x [] qs h = elim h [ ]
onto_append x (p ∷ ps) qs some = refl

-- parts on both sides of a separator
pub split_append : {X : Type 0} (p : X → Bool) (xs : List X) (y : X) (ys : List X) → p y ≡ true → slice_split p (xs ++ y ∷ ys) ≡ slice_split p xs ++ slice_split p ys
split_append p [] y ys e = slice_split-cons_yes p y ys e
split_append p (x ∷ xs) y ys e = cases (p x) refl (split_append p xs y ys e)
  where
    cases : (b : Bool) → p x ≡ b → slice_split p (xs ++ y ∷ ys) ≡ slice_split p xs ++ slice_split p ys → slice_split p (x ∷ (xs ++ y ∷ ys)) ≡ slice_split p (x ∷ xs) ++ slice_split p ys
    cases true f h =
        slice_split-cons_yes p x (xs ++ y ∷ ys) f ∙ ap (λ z. [] ∷ z) h
        ∙ ap (λ z. z ++ slice_split p ys) (sym (slice_split-cons_yes p x xs f))
    cases false f h =
        slice_split-cons_no p x (xs ++ y ∷ ys) f ∙ ap (onto_first x) h
        ∙ onto_append x (slice_split p xs) (slice_split p ys) (split_some p xs)
        ∙ ap (λ z. z ++ slice_split p ys) (sym (slice_split-cons_no p x xs f))

module _ (r : Rules) where
  -- the components of one part
  pub part_items : (s : List ℕ) → IsPlain r s → components_in r s ≡ filter_map (named r) (s ∷ [])
  part_items s h = ap (filter_map (named r)) (slice_split_none (separates r) s h)

  -- the components on both sides of a separator
  pub cut_items : (s before after : List ℕ) → IsCut r s before after → components_in r s ≡ components_in r before ++ components_in r after
  cut_items s before after c =
      ap (components_in r) c.joined ∙ ap (filter_map (named r)) (split_append (separates r) before c.separator after c.parts)
      ∙ filter_map-append (named r) (slice_split (separates r) before) (slice_split (separates r) after)

  -- a part that is all there is
  pub one_item : (s : List ℕ) (x : Item) → IsPlain r s → Some x ≡ named r s → components_in r s ≡ x ∷ []
  one_item s x h e = part_items s h ∙ sym (ap (λ o. cons_option o []) e)

  pub no_item : (s : List ℕ) → IsPlain r s → None ≡ named r s → components_in r s ≡ []
  no_item s h e = part_items s h ∙ sym (ap (λ o. cons_option o []) e)

  -- the first part, and the last, names a component or none
  pub first_item : (s part rest : List ℕ) (x : Item) → IsCut r s part rest × IsPlain r part → Some x ≡ named r part → components_in r s ≡ x ∷ components_in r rest
  first_item s part rest x (c, h) e = cut_items s part rest c ∙ ap (λ z. z ++ components_in r rest) (one_item part x h e)

  pub no_first_item : (s part rest : List ℕ) → IsCut r s part rest × IsPlain r part → None ≡ named r part → components_in r s ≡ components_in r rest
  no_first_item s part rest (c, h) e = cut_items s part rest c ∙ ap (λ z. z ++ components_in r rest) (no_item part h e)

  pub last_item : (s rest part : List ℕ) (x : Item) → IsCut r s rest part × IsPlain r part → Some x ≡ named r part → components_in r s ≡ components_in r rest ++ x ∷ []
  last_item s rest part x (c, h) e = cut_items s rest part c ∙ ap (λ z. components_in r rest ++ z) (one_item part x h e)

  pub no_last_item : (s rest part : List ℕ) → IsCut r s rest part × IsPlain r part → None ≡ named r part → components_in r s ≡ components_in r rest
  no_last_item s rest part (c, h) e = cut_items s rest part c ∙ ap (λ z. components_in r rest ++ z) (no_item part h e) ∙ append-nil (components_in r rest)

  pub only_first : (s none : List ℕ) (x : Item) → none ≡ [] → IsPlain r s → Some x ≡ named r s → components_in r s ≡ x ∷ components_in r none
  only_first s none x n h e = one_item s x h e ∙ ap (λ z. x ∷ components_in r z) (sym n)

  pub only_last : (s none : List ℕ) (x : Item) → none ≡ [] → IsPlain r s → Some x ≡ named r s → components_in r s ≡ components_in r none ++ x ∷ []
  only_last s none x n h e = one_item s x h e ∙ ap (λ z. components_in r z ++ x ∷ []) (sym n)

  -- the last part of what is all one part, and after the last separator
  pub alone_named : (s : List ℕ) (x : Item) → IsPlain r s → Some x ≡ named r s → EndsNamed r s
  alone_named s x h e = λ parts part some f.
      let same = (same_from_push [] parts s part (sym (slice_split_none (separates r) s h) ∙ f)).1 in
      let names : Some x ≡ named r part = e ∙ ap (named r) same in λ none. let never : Some x ≡ None = names ∙ none in cc

  pub last_named : (s rest last : List ℕ) (x : Item) → IsCut r s rest last × IsPlain r last → Some x ≡ named r last → EndsNamed r s
  last_named s rest last x (c, h) e = λ parts part some f.
      let whole : slice_split (separates r) s ≡ slice_split (separates r) rest ++ last ∷ [] =
      ap (slice_split (separates r)) c.joined ∙ split_append (separates r) rest c.separator last c.parts ∙ ap (λ z. slice_split (separates r) rest ++ z) (slice_split_none (separates r) last h) in
      let same = (same_from_push (slice_split (separates r) rest) parts last part (sym whole ∙ f)).1 in
      let names : Some x ≡ named r part = e ∙ ap (named r) same in λ none. let never : Some x ≡ None = names ∙ none in cc

pub last_of_one : (r : Rules) (body left : List ℕ) (x : Item) → IsUpTo r body left → components_in r body ≡ components_in r left → IsPlain r left → Some x ≡ named r left → IsLastPart r body left left
last_of_one r body left x u e p n = record { up_to = u; same = e; front = []; joined = refl; first = []; item = x; names = sym n; items = one_item r left x p n }

pub last_of_more : (r : Rules) (body left rest part : List ℕ) (x : Item) → IsUpTo r body left → components_in r body ≡ components_in r left → IsCut r left rest part × IsPlain r part → Some x ≡ named r part → IsLastPart r body left part
last_of_more r body left rest part x u e (c, p) n = record {
  up_to = u;
  same = e;
  front = rest ++ c.separator ∷ [];
  joined = c.joined ∙ sym (append_assoc rest (c.separator ∷ []) part);
  first = components_in r rest;
  item = x;
  names = sym n;
  items = last_item r left rest part x (c, p) n;
}
