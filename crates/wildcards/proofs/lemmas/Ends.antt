-- What begins or ends with a letter that a piece doesn't fit isn't matched.
use Rattle.std.proofs.Common.{◌≡◌, ℕ, Bool, true, false, List, [], ◌∷◌, ◌++◌, refl, ap, ◌∙◌, subst}
use Rattle.std.proofs.lemmas.List.Splits.{slice_split-cons_yes, slice_split-cons_no}
use Rattle.std.specs.List.{onto_first}
use Rattle.std.proofs.lemmas.List.Elements.{All-from_recursion}
use Rattle.wildcards.specs.declared.options.Options.{Options}
use Rattle.wildcards.specs.declared.part.Part.{Part}
use Rattle.wildcards.specs.declared.piece.Piece.{Piece}
use Rattle.wildcards.specs.declared.piece.Piece.TheVariants.{One}
use Rattle.wildcards.specs.declared.separators.Separators.{Separators}
use Rattle.wildcards.specs.Components.{separates, components}
use Rattle.wildcards.specs.Ends.{BeginsOtherwise, EndsOtherwise}
use Rattle.wildcards.specs.Match.{Fits, TakesLetter, TakesComponent, FitsComponent, Matches}
use Rattle.wildcards.specs.PathSteps.{FirstDiffers}
use Rattle.wildcards.specs.Wild.{Wild}
use Rattle.wildcards.proofs.lemmas.Fitting.{by_letters}
use Rattle.wildcards.proofs.lemmas.Parts.{split_append, some_component, last_ends}
use Rattle.wildcards.proofs.lemmas.Wilds.{no_place, one_place, none_last, last_one}

module _ (formed : List ℕ → Type 0) (letters : List ℕ → List ℕ) {A : Type 0} (o : Options) (part : Part A) (path : List ℕ) (h : BeginsOtherwise part.pieces.items (letters path)) where
  abbrev s : Separators
  s = o.separators

  at_one : (c : List ℕ) → FitsComponent o.literal_leading_dot part c → Wild TakesLetter Fits (One h.item ∷ h.pieces) c
  at_one c m = subst (λ ps. Wild TakesLetter Fits ps c) h.pieces_are m.0

  pub first_differs : FirstDiffers formed letters o part path
  first_differs = cases (separates s h.letter) refl
    where
      onto : separates s h.letter ≡ false → (cs : List (List ℕ)) → components s h.rest ≡ cs → FirstDiffers formed letters o part path
      onto e [] f = absurd (some_component s h.rest f)
      onto e (c ∷ cs) f = record {
        component = h.letter ∷ c;
        rest = cs;
        parts = ap (components s) h.letters_are ∙ slice_split-cons_no (separates s) h.letter h.rest e ∙ ap (onto_first h.letter) f;
        differs = λ m. h.differs (one_place TakesLetter Fits by_letters h.item h.pieces h.letter c (at_one (h.letter ∷ c) m)).0;
      }

      cases : (v : Bool) → separates s h.letter ≡ v → FirstDiffers formed letters o part path
      cases true e = record {
        component = [];
        rest = components s h.rest;
        parts = ap (components s) h.letters_are ∙ slice_split-cons_yes (separates s) h.letter h.rest e;
        differs = λ m. no_place TakesLetter Fits by_letters h.item h.pieces (at_one [] m);
      }
      cases false e = onto e (components s h.rest) refl

module _ {A : Type 0} (pattern before : List (Piece (Part A))) (part : Part A) (e : pattern ≡ before ++ One part ∷ []) (letters : List ℕ) (h : EndsOtherwise part.pieces.items letters) where
  module _ (o : Options) (m : Matches o pattern letters) where
    abbrev own_s : Separators
    own_s = o.separators

    last_fits : (cs : List (List ℕ)) (c : List ℕ) → components own_s letters ≡ cs ++ c ∷ [] → Wild TakesLetter Fits part.pieces.items c
    last_fits cs c f = (last_one (TakesComponent o.literal_leading_dot) (FitsComponent o.literal_leading_dot) pattern before part e (components own_s letters) cs c f m).0.0

    not_empty : separates own_s h.letter ≡ true → ⊥
    not_empty t = none_last TakesLetter Fits part.pieces.items h.pieces h.item h.pieces_are [] refl (last_fits (components own_s h.start) [] (ap (components own_s) h.letters_are ∙ split_append (separates own_s) h.start h.letter [] t))

    not_that : separates own_s h.letter ≡ false → ⊥
    not_that t =
        let last = last_ends own_s (h.letter ∷ []) (All-from_recursion (λ b. separates own_s b ≡ false) (h.letter ∷ []) (t, tt)) h.start in
        h.differs (last_one TakesLetter Fits part.pieces.items h.pieces h.item h.pieces_are (last.start ++ h.letter ∷ []) last.start h.letter refl (last_fits last.before (last.start ++ h.letter ∷ []) (ap (components own_s) h.letters_are ∙ last.parts))).0

    pub never_ends : ⊥
    never_ends = cases (separates own_s h.letter) refl
      where
        cases : (v : Bool) → separates own_s h.letter ≡ v → ⊥
        cases true t = not_empty t
        cases false t = not_that t
