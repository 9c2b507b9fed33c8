-- What a list falls into, joined again with what it was cut at between the pieces.
use Rattle.std.proofs.Common.{◌≡◌, ℕ, ◌<◌, List, [], ◌∷◌, ◌++◌, length, reverse, sym, ap, ◌∙◌, arith, append_assoc}
use Rattle.std.specs.List.{flat_map, join_by}
use Rattle.std.proofs.lemmas.Grind.{flat_map-append}
use Rattle.std.proofs.lemmas.List.{append-nil, length-reverse, reverse-append}
use Rattle.os_str_ext.specs.Pieces.{SplitsInto, whole, cut}

module _ (p : List ℕ) where
  -- the pieces with p between them
  abbrev joined : List (List ℕ) → List ℕ
  joined pieces = join_by (λ piece. piece) p pieces

  -- where each cut takes its piece off the start
  module _ {Cuts : List ℕ → List ℕ → List ℕ → Type 0} {Whole : List ℕ → Type 0} (cuts : (s piece rest : List ℕ) → Cuts s piece rest → s ≡ piece ++ (p ++ rest)) where
    after_p : (s : List ℕ) (pieces : List (List ℕ)) → SplitsInto Cuts Whole s pieces → flat_map (λ piece. p ++ piece) pieces ≡ p ++ joined pieces
    after_p s pieces (whole w) = append_assoc p s []
    after_p s pieces (cut {piece = piece} {pieces = others} c falls) = append_assoc p piece (flat_map (λ y. p ++ y) others)

    pub pieces_joined : (s : List ℕ) (pieces : List (List ℕ)) → SplitsInto Cuts Whole s pieces → joined pieces ≡ s
    pieces_joined s pieces (whole w) = append-nil s
    pieces_joined s pieces (cut {piece = piece} {rest = rest} {pieces = others} c falls) =
        ap (λ x. piece ++ x) (after_p rest others falls) ∙ ap (λ x. piece ++ (p ++ x)) (pieces_joined rest others falls) ∙ sym (cuts s piece rest c)

  -- one more piece at the end
  pub with_last : (pieces : List (List ℕ)) (last : List ℕ) → 0 < length pieces → joined (pieces ++ last ∷ []) ≡ joined pieces ++ (p ++ last)
  with_last [] last some = absurd (omega (arith, some))
  with_last (x ∷ pieces) last some =
      ap (λ y. x ++ y) (flat_map-append (λ y. p ++ y) pieces (last ∷ []) ∙ ap (λ y. flat_map (λ y. p ++ y) pieces ++ y) (append-nil (p ++ last))) ∙ sym (append_assoc x (flat_map (λ y. p ++ y) pieces) (p ++ last))

  -- where each takes it off the end
  module _ {Cuts : List ℕ → List ℕ → List ℕ → Type 0} {Whole : List ℕ → Type 0} (cuts : (s piece rest : List ℕ) → Cuts s piece rest → s ≡ rest ++ (p ++ piece)) where
    some_piece : (s : List ℕ) (pieces : List (List ℕ)) → SplitsInto Cuts Whole s pieces → 0 < length (reverse pieces)
    some_piece s pieces (whole w) = omega arith
    some_piece s pieces (cut {piece = piece} {pieces = others} c falls) = omega (arith, length-reverse (piece ∷ others))

    pub pieces_joined_from_the_end : (s : List ℕ) (pieces : List (List ℕ)) → SplitsInto Cuts Whole s pieces → joined (reverse pieces) ≡ s
    pieces_joined_from_the_end s pieces (whole w) = append-nil s
    pieces_joined_from_the_end s pieces (cut {piece = piece} {rest = rest} {pieces = others} c falls) =
        ap joined (reverse-append (piece ∷ []) others) ∙ with_last (reverse others) piece (some_piece rest others falls)
        ∙ ap (λ x. x ++ (p ++ piece)) (pieces_joined_from_the_end rest others falls) ∙ sym (cuts s piece rest c)
