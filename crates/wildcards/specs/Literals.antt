-- Pieces that are a text of ASCII.
use Rattle.std.specs.Prelude.{Bool, true, false, ℕ, nat_eq, nat_lt, ◌&&◌, List, [], ◌∷◌, Option, Some, None}
use Rattle.std.specs.declared.vec.Vec.{Vec}
use Rattle.wildcards.specs.declared.piece.Item.{Item}
use Rattle.wildcards.specs.declared.piece.Item.TheVariants.{Any, Literal, EitherCase, OneOf}
use Rattle.wildcards.specs.declared.piece.Piece.{Piece}
use Rattle.wildcards.specs.declared.piece.Piece.TheVariants.{Many, One}

module _ {A : Type 0} where
  -- the pieces are literals, of these bytes of ASCII
  abbrev pub spells : List (Piece (Item A)) → List ℕ → Bool
  spells [] [] = true
  spells [] (b ∷ bytes) = false
  spells (Many ∷ pieces) bytes = false
  spells (One Any ∷ pieces) bytes = false
  spells (One (EitherCase small) ∷ pieces) bytes = false
  spells (One (OneOf class) ∷ pieces) bytes = false
  spells (One (Literal letter) ∷ pieces) [] = false
  spells (One (Literal letter) ∷ pieces) (b ∷ bytes) = nat_eq letter b && (nat_lt b 0x80 && spells pieces bytes)

  -- they are those of the text, if there is one
  abbrev pub spells_some : List (Piece (Item A)) → Option (Vec ℕ A) → Bool
  spells_some pieces None = true
  spells_some pieces (Some text) = spells pieces text.items
