-- Letters that begin or end otherwise than pieces do: only private contracts name this.
use Rattle.std.specs.Prelude.{◌≡◌, ℕ, List, [], ◌∷◌, ◌++◌}
use Rattle.wildcards.specs.declared.piece.Piece.{Piece}
use Rattle.wildcards.specs.declared.piece.Piece.TheVariants.{One}
use Rattle.wildcards.specs.declared.piece.Item.{Item}
use Rattle.wildcards.specs.Match.{Fits}

module _ {A : Type 0} where
  -- the first piece doesn't fit the first letter
  pub record BeginsOtherwise (ps : List (Piece (Item A))) (letters : List ℕ) : Type 0 where
    pub item : Item A
    pub pieces : List (Piece (Item A))
    pub pieces_are : ps ≡ One item ∷ pieces
    pub letter : ℕ
    pub rest : List ℕ
    pub letters_are : letters ≡ letter ∷ rest
    pub differs : ¬ (Fits item letter)

  -- the last piece doesn't fit the last letter
  pub record EndsOtherwise (ps : List (Piece (Item A))) (letters : List ℕ) : Type 0 where
    pub pieces : List (Piece (Item A))
    pub item : Item A
    pub pieces_are : ps ≡ pieces ++ One item ∷ []
    pub start : List ℕ
    pub letter : ℕ
    pub letters_are : letters ≡ start ++ letter ∷ []
    pub differs : ¬ (Fits item letter)
