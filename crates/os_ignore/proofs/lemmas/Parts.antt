-- The pieces on both sides of a separator.
use Rattle.std.proofs.Common.{◌≡◌, ℕ, List, [], ◌∷◌, ◌++◌, eq-eqb, nat_eq, refl, ap, ◌∙◌}
use Rattle.std.proofs.lemmas.List.Splits.{slice_split_none}
use Rattle.wildcards.proofs.lemmas.Parts.{split_append}
use Rattle.os_ignore.specs.Components.{IsPlain, IsCut, pieces}

module _ (separator : ℕ) where
  pub one_piece : (s : List ℕ) → IsPlain separator s → pieces separator s ≡ s ∷ []
  one_piece s h = slice_split_none (λ b. nat_eq b separator) s h

  pub first_piece : (s part rest : List ℕ) → IsCut separator s part rest × IsPlain separator part → pieces separator s ≡ part ∷ pieces separator rest
  first_piece s part rest (c, h) =
      ap (pieces separator) c ∙ split_append (λ b. nat_eq b separator) part separator rest (eq-eqb separator separator refl)
      ∙ ap (λ z. z ++ pieces separator rest) (one_piece part h)

  pub last_of_cut : (s front back : List ℕ) → IsCut separator s front back → IsPlain separator back → pieces separator s ≡ pieces separator front ++ back ∷ []
  last_of_cut s front back c h =
      ap (pieces separator) c ∙ split_append (λ b. nat_eq b separator) front separator back (eq-eqb separator separator refl)
      ∙ ap (λ z. pieces separator front ++ z) (one_piece back h)
