-- How a pattern without alternatives is compiled: parts between separators, of `*`, `?`, classes and letters; `**` as a whole part takes any number of components.
use Rattle.std.specs.Prelude.{◌≡◌, ℕ, Bool, true, false, ◌&&◌, List, [], ◌∷◌, Option, Some, None}
use Rattle.std.specs.Option.{is_some}
use Rattle.wildcards.specs.declared.class.Class.{Class}
use Rattle.wildcards.specs.declared.part.Part.{Part}
use Rattle.wildcards.specs.declared.pattern.Choice.{Choice}
use Rattle.wildcards.specs.declared.piece.Item.{Item}
use Rattle.wildcards.specs.declared.piece.Item.TheVariants.{Any, Literal, OneOf}
use Rattle.wildcards.specs.declared.piece.Piece.{Piece}
use Rattle.wildcards.specs.declared.piece.Piece.TheVariants.{Many, One}
use Rattle.wildcards.specs.declared.separators.Separators.{Separators}
use Rattle.wildcards.specs.Classes.{permitted}
use Rattle.wildcards.specs.Components.{separates}
use Rattle.wildcards.specs.Ranges.{permits}
use Rattle.glob_text.specs.Marks.{Mark, literal, any, star, one_of, opens, comma, closes}
use Rattle.wildcards.specs.Groups.{group}
use Rattle.wildcards.specs.Items.{Reads, ReadsLists}

-- the mark separates components
abbrev pub is_separator : Separators → Mark → Bool
is_separator o (literal letter) = separates o letter
is_separator o any = false
is_separator o (star again) = false
is_separator o (one_of negated ranges) = false
is_separator o (opens index) = false
is_separator o comma = false
is_separator o (closes index) = false

-- the mark is `*`
abbrev pub is_star : Mark → Bool
is_star (literal letter) = false
is_star any = false
is_star (star again) = true
is_star (one_of negated ranges) = false
is_star (opens index) = false
is_star comma = false
is_star (closes index) = false

-- it is `*`, and another came right after it in the pattern
abbrev pub is_doubled : Mark → Bool
is_doubled (literal letter) = false
is_doubled any = false
is_doubled (star again) = again
is_doubled (one_of negated ranges) = false
is_doubled (opens index) = false
is_doubled comma = false
is_doubled (closes index) = false

module _ (o : Separators) where
  -- a part ends here
  abbrev pub ends_part : List Mark → Bool
  ends_part [] = true
  ends_part (m ∷ ms) = is_separator o m

  abbrev pub ends_deep : List Mark → Bool
  ends_deep [] = false
  ends_deep (m ∷ ms) = is_star m && ends_part ms

  -- the first part is `**`
  abbrev pub is_deep : List Mark → Bool
  is_deep [] = false
  is_deep (m ∷ ms) = is_doubled m && ends_deep ms

  -- a part ends here, and this comes after the separator, if one is there
  abbrev pub EndsPart : List Mark → Option (List Mark) → Type 0
  EndsPart left None = left ≡ []
  EndsPart left (Some rest) = (m : Mark) × (left ≡ m ∷ rest) × (is_separator o m ≡ true)

module _ {A : Type 0} where
  -- what a mark is in the compiled pattern
  abbrev pub IsPieceOf : Mark → Piece (Item A) → Type 0
  IsPieceOf (literal letter) piece = piece ≡ One (Literal letter)
  IsPieceOf any piece = piece ≡ One Any
  IsPieceOf (star again) piece = piece ≡ Many
  IsPieceOf (one_of negated ranges) piece =
      (class : Class A) × (piece ≡ One (OneOf class)) × ((letter : ℕ) → permitted class letter ≡ permits negated ranges letter)
  IsPieceOf (opens index) piece = piece ≡ One (Literal 0x7B)
  IsPieceOf comma piece = piece ≡ One (Literal 0x2C)
  IsPieceOf (closes index) piece = piece ≡ One (Literal 0x7D)

  module _ (o : Separators) where
    -- the marks begin with the piece, and not with a separator
    abbrev pub IsPiece : List Mark → Piece (Item A) → List Mark → Type 0
    IsPiece [] piece rest = ⊥
    IsPiece (m ∷ ms) piece rest = (is_separator o m ≡ false) × (IsPieceOf m piece × (rest ≡ ms))

    -- the marks begin with a part of these pieces, and this comes after it
    pub record IsPart (marks : List Mark) (pieces : List (Piece (Item A))) (after : Option (List Mark)) : Type 0 where
      pub left : List Mark
      pub read : Reads IsPiece marks pieces left
      pub ends : EndsPart o left after

    -- a part is read, and what it is in the pattern
    pub record IsGroup (marks : List Mark) (pieces : List (Piece (Part A))) (after : Option (List Mark)) : Type 0 where
      pub part : Part A
      pub read : IsPart marks part.pieces.items after
      pub pieces_are : pieces ≡ group (is_deep o marks) (is_some after) part

    -- the parts of the marks, one after the other
    abbrev pub NextGroup : Option (List Mark) → List (Piece (Part A)) → Option (List Mark) → Type 0
    NextGroup None pieces after = ⊥
    NextGroup (Some marks) pieces after = IsGroup marks pieces after

    -- the compiled pattern of marks without alternatives
    abbrev pub IsCompiled : List Mark → List (Piece (Part A)) → Type 0
    IsCompiled marks pattern = ReadsLists NextGroup (Some marks) pattern None

    -- those of each choice
    abbrev pub AreCompiled : List (List Mark) → List (Choice A) → Type 0
    AreCompiled [] [] = Unit {0}
    AreCompiled [] (p ∷ ps) = ⊥
    AreCompiled (c ∷ cs) [] = ⊥
    AreCompiled (c ∷ cs) (p ∷ ps) = IsCompiled c p.pieces.items × AreCompiled cs ps
