-- The components of a path on both sides of a separator.
use Rattle.std.proofs.Common.{◌≡◌, ℕ, Bool, true, false, List, [], ◌∷◌, ◌++◌, refl, sym, ap, ◌∙◌, subst}
use Rattle.std.proofs.lemmas.List.Splits.{slice_split-cons_yes, slice_split-cons_no, slice_split_none}
use Rattle.std.specs.List.{slice_split, onto_first}
use Rattle.wildcards.specs.declared.separators.Separators.{Separators}
use Rattle.wildcards.specs.Components.{separates, components}
use Rattle.wildcards.specs.Cuts.{IsPlain, IsCut}

-- a list of parts isn't empty
data IsSome {X : Type 0} : List X → Type 0 where
  some : {x : X} {xs : List X} → IsSome (x ∷ xs)

onto_some : {X : Type 0} (x : X) (ps : List (List X)) → IsSome (onto_first x ps)
onto_some x [] = some
onto_some x (p ∷ ps) = some

split_some : {X : Type 0} (p : X → Bool) (xs : List X) → IsSome (slice_split p xs)
split_some p [] = some
split_some p (x ∷ xs) = cases (p x) refl
  where
    cases : (b : Bool) → p x ≡ b → IsSome (slice_split p (x ∷ xs))
    cases true e = subst IsSome (sym (slice_split-cons_yes p x xs e)) some
    cases false e = subst IsSome (sym (slice_split-cons_no p x xs e)) (onto_some x (slice_split p xs))

onto_append : {X : Type 0} (x : X) (ps qs : List (List X)) → IsSome ps → onto_first x (ps ++ qs) ≡ onto_first x ps ++ qs
onto_append x [] qs h = elim h [ ]
onto_append x (p ∷ ps) qs some = refl

-- parts on both sides of a separator
pub split_append : {X : Type 0} (p : X → Bool) (xs : List X) (y : X) (ys : List X) → p y ≡ true → slice_split p (xs ++ y ∷ ys) ≡ slice_split p xs ++ slice_split p ys
split_append p [] y ys e = slice_split-cons_yes p y ys e
split_append p (x ∷ xs) y ys e = cases (p x) refl (split_append p xs y ys e)
  where
    cases : (b : Bool) → p x ≡ b → slice_split p (xs ++ y ∷ ys) ≡ slice_split p xs ++ slice_split p ys → slice_split p (x ∷ (xs ++ y ∷ ys)) ≡ slice_split p (x ∷ xs) ++ slice_split p ys
    cases true f h =
        slice_split-cons_yes p x (xs ++ y ∷ ys) f ∙ ap (λ z. [] ∷ z) h
        ∙ ap (λ z. z ++ slice_split p ys) (sym (slice_split-cons_yes p x xs f))
    cases false f h =
        slice_split-cons_no p x (xs ++ y ∷ ys) f ∙ ap (onto_first x) h
        ∙ onto_append x (slice_split p xs) (slice_split p ys) (split_some p xs)
        ∙ ap (λ z. z ++ slice_split p ys) (sym (slice_split-cons_no p x xs f))

module _ (o : Separators) where
  pub one_component : (s : List ℕ) → IsPlain o s → components o s ≡ s ∷ []
  one_component s h = slice_split_none (separates o) s h

  pub first_component : (s part rest : List ℕ) → IsCut o s part rest × IsPlain o part → components o s ≡ part ∷ components o rest
  first_component s part rest (c, h) =
      ap (components o) c.joined ∙ split_append (separates o) part c.separator rest c.parts
      ∙ ap (λ z. z ++ components o rest) (one_component part h)

  pub some_component : (s : List ℕ) → components o s ≡ [] → ⊥
  some_component s e = elim (subst IsSome e (split_some (separates o) s)) [ ]

  pub last_of_cut : (s front back : List ℕ) → IsCut o s front back → IsPlain o back → components o s ≡ components o front ++ back ∷ []
  last_of_cut s front back c h =
      ap (components o) c.joined ∙ split_append (separates o) front c.separator back c.parts
      ∙ ap (λ z. components o front ++ z) (one_component back h)

-- the last component ends with the tail
pub record LastEnds (s : Separators) (letters tail : List ℕ) : Type 0 where
  pub before : List (List ℕ)
  pub start : List ℕ
  pub parts : components s letters ≡ before ++ (start ++ tail) ∷ []

module _ (s : Separators) (tail : List ℕ) (plain : IsPlain s tail) where
  pub last_ends : (front : List ℕ) → LastEnds s (front ++ tail) tail
  last_ends [] = record { before = []; start = []; parts = one_component s tail plain }
  last_ends (x ∷ front) = cases (separates s x) refl (last_ends front)
    where
      onto : separates s x ≡ false → (cs : List (List ℕ)) (start : List ℕ) → components s (front ++ tail) ≡ cs ++ (start ++ tail) ∷ [] → LastEnds s (x ∷ (front ++ tail)) tail
      onto e [] start f = record { before = []; start = x ∷ start; parts = slice_split-cons_no (separates s) x (front ++ tail) e ∙ ap (onto_first x) f }
      onto e (c ∷ cs) start f = record { before = (x ∷ c) ∷ cs; start = start; parts = slice_split-cons_no (separates s) x (front ++ tail) e ∙ ap (onto_first x) f }

      cases : (v : Bool) → separates s x ≡ v → LastEnds s (front ++ tail) tail → LastEnds s (x ∷ (front ++ tail)) tail
      cases true e rest = record { before = [] ∷ rest.before; start = rest.start; parts = slice_split-cons_yes (separates s) x (front ++ tail) e ∙ ap (λ z. [] ∷ z) rest.parts }
      cases false e rest = onto e rest.before rest.start rest.parts
