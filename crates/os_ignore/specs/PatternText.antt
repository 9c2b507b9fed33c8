-- How a pattern is written: parts between slashes, of `*`, `?`, classes and literal bytes (gitignore, "PATTERN FORMAT").
use Rattle.std.specs.Prelude.{◌≡◌, ℕ, Bool, true, false, not, nat_le, ◌&&◌, List, [], ◌∷◌, length, Option, Some, None}
use Rattle.std.specs.Char.{to_ascii_lowercase}
use denote.Ref.{Bor}
use Rattle.wildcards.specs.declared.class.Class.{Class}
use Rattle.wildcards.specs.declared.part.Part.{Part}
use Rattle.wildcards.specs.declared.piece.Item.{Item}
use Rattle.wildcards.specs.declared.piece.Item.TheVariants.{Any, OneOf}
use Rattle.wildcards.specs.declared.piece.Item.TheVariants as item
use Rattle.wildcards.specs.declared.piece.Piece.{Piece}
use Rattle.wildcards.specs.declared.piece.Piece.TheVariants.{Many, One}
use Rattle.wildcards.specs.Match.{Fits}
use Rattle.os_ignore.specs.declared.letter.Letter.{Letter}
use Rattle.os_ignore.specs.declared.letter.Kind.{Kind}
use Rattle.os_ignore.specs.declared.letter.Kind.TheVariants.{Slash, Star, Question, Bracket, Literal}
use Rattle.os_ignore.specs.declared.pattern.After.{After}
use Rattle.os_ignore.specs.declared.pattern.After.TheVariants as after
use Rattle.os_ignore.specs.ClassText.{IsClass, IsBrokenClass}
use Rattle.os_ignore.specs.Letters.{kind_of, own_byte}
use Rattle.wildcards.specs.Groups.{group}
use Rattle.wildcards.specs.Items.{Reads, ReadsLists}

-- the letter and what comes after it begin a class, but not one that is written right
abbrev pub IsBrokenPiece : Letter → List Letter → Type 0
IsBrokenPiece l ls = (kind_of l ≡ Bracket) × IsBrokenClass ls

-- a class begins here, but not one that is written right
abbrev pub IsBrokenHere : List Letter → Type 0
IsBrokenHere [] = ⊥
IsBrokenHere (l ∷ ls) = IsBrokenPiece l ls

-- what comes after a slash
abbrev pub left_after : After → Option (Bor (List Letter))
left_after after.End = None
left_after (after.Slash quoted rest) = Some rest

-- a slash follows that isn't quoted
abbrev pub is_joined : After → Bool
is_joined after.End = false
is_joined (after.Slash quoted rest) = not quoted

-- the part ends here: at the end, or before a slash
abbrev pub EndsPart : List Letter → After → Type 0
EndsPart text after.End = text ≡ []
EndsPart text (after.Slash quoted rest) = text ≡ record { byte = 0x2F; quoted = quoted } ∷ rest.now

-- what is left, without its address
abbrev pub text_of : Option (Bor (List Letter)) → Option (List Letter)
text_of None = None
text_of (Some rest) = Some rest.now

module _ {A : Type 0} where
  -- the item fits the bytes whose small letter is this one
  abbrev pub FitsCases : ℕ → Item A → Type 0
  FitsCases own item = (b : ℕ) → (Fits item b → to_ascii_lowercase b ≡ own) × (to_ascii_lowercase b ≡ own → Fits item b)

  -- the piece matches the letter alone, without regard to case if the file folds
  abbrev pub IsLiteral : Bool → Letter → Piece (Item A) → Type 0
  IsLiteral false l piece = piece ≡ One (item.Literal l.byte)
  IsLiteral true l piece = (item : Item A) × (piece ≡ One item) × FitsCases (own_byte true l) item

  -- each piece is a star
  abbrev pub all_stars : List (Piece (Item A)) → Bool
  all_stars [] = true
  all_stars (Many ∷ pieces) = all_stars pieces
  all_stars (One x ∷ pieces) = false

  -- a part of two stars or more, and nothing else
  abbrev pub is_deep : List (Piece (Item A)) → Bool
  is_deep pieces = nat_le 2 (length pieces) && all_stars pieces

module _ {A : Type 0} (folds : Bool) where
  -- a letter, by its kind, and what comes after it are a piece, and what comes after that
  abbrev pub PieceAt : Kind → Letter → List Letter → Piece (Item A) → List Letter → Type 0
  PieceAt Slash l ls piece rest = IsLiteral folds l piece × (rest ≡ ls)
  PieceAt Star l ls piece rest = (piece ≡ Many) × (rest ≡ ls)
  PieceAt Question l ls piece rest = (piece ≡ One Any) × (rest ≡ ls)
  PieceAt Literal l ls piece rest = IsLiteral folds l piece × (rest ≡ ls)
  PieceAt Bracket l ls piece rest = (class : Class A) × (piece ≡ One (OneOf class)) × IsClass folds ls class rest

  -- the text begins with the piece, and not with a slash
  abbrev pub IsPiece : List Letter → Piece (Item A) → List Letter → Type 0
  IsPiece [] piece rest = ⊥
  IsPiece (l ∷ ls) piece rest = (l.byte ≡ 0x2F → ⊥) × PieceAt (kind_of l) l ls piece rest

  -- the text begins with a part of these pieces, and what comes after it
  pub record IsPart (text : List Letter) (pieces : List (Piece (Item A))) (after : After) : Type 0 where
    pub left : List Letter
    pub read : Reads IsPiece text pieces left
    pub ends : EndsPart left after

  -- a part is read, and what it is in the pattern: a slash that isn't quoted joins it to the next
  pub record IsGroup (text : List Letter) (pieces : List (Piece (Part A))) (left : Option (List Letter)) : Type 0 where
    pub part : Part A
    pub after : After
    pub read : IsPart text part.pieces.items after
    pub pieces_are : pieces ≡ group (is_deep part.pieces.items) (is_joined after) part
    pub left_is : left ≡ text_of (left_after after)

  -- the parts of the text, one after the other
  abbrev pub NextGroup : Option (List Letter) → List (Piece (Part A)) → Option (List Letter) → Type 0
  NextGroup None pieces left = ⊥
  NextGroup (Some text) pieces left = IsGroup text pieces left

  -- the pattern that the text is
  abbrev pub IsPattern : List Letter → List (Piece (Part A)) → Type 0
  IsPattern text pattern = ReadsLists NextGroup (Some text) pattern None

module _ (folds : Bool) (A : Type 0) where
  -- a class in the first part isn't written right
  pub record IsBrokenPart (text : List Letter) : Type 0 where
    pub pieces : List (Piece (Item A))
    pub left : List Letter
    pub read : Reads (IsPiece folds) text pieces left
    pub broken : IsBrokenHere left

  -- a class in a part isn't written right
  pub record IsBrokenPattern (text : List Letter) : Type 0 where
    pub groups : List (List (Piece (Part A)))
    pub left : List Letter
    pub read : Reads (NextGroup folds) (Some text) groups (Some left)
    pub broken : IsBrokenPart left
