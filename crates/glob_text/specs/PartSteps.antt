-- What is left of a choice's marks: only private contracts name this.
use Rattle.std.specs.Prelude.{◌≡◌, ◌+◌, ℕ, List, [], ◌∷◌, length, Option, Some, None}
use denote.Ref.{Bor}
use Rattle.wildcards.specs.declared.piece.Item.{Item}
use Rattle.wildcards.specs.declared.piece.Piece.{Piece}
use Rattle.wildcards.specs.declared.piece.Piece.TheVariants.{Many, One}
use Rattle.wildcards.specs.Classes.{IsItemClone}
use Rattle.glob_text.specs.Marks.{Mark}
use Rattle.glob_text.specs.Chosen.{mark_at, marks_at}
use Rattle.glob_text.specs.Parts.{IsPieceOf}

-- the marks that are left; none where nothing is
abbrev pub rest_of : List Mark → Option (Bor (List ℕ)) → Option (List Mark)
rest_of marks None = None
rest_of marks (Some rest) = Some (marks_at marks rest.now)

-- smaller the less is left
abbrev pub rest_size : Option (Bor (List ℕ)) → ℕ
rest_size None = 0
rest_size (Some rest) = length rest.now + 1

module _ {A : Type 0} where
  -- what each mark is in the compiled pattern
  abbrev pub ArePieces : List Mark → List (Piece (Item A)) → Type 0
  ArePieces [] [] = Unit {0}
  ArePieces [] (p ∷ ps) = ⊥
  ArePieces (m ∷ ms) [] = ⊥
  ArePieces (m ∷ ms) (p ∷ ps) = IsPieceOf m p × ArePieces ms ps

  -- what the mark of this index is, whichever marks the pieces are of
  abbrev pub IsPieceAt : List (Piece (Item A)) → ℕ → Piece (Item A) → Type 0
  IsPieceAt pieces index piece = (marks : List Mark) → ArePieces marks pieces → IsPieceOf (mark_at marks index) piece

  -- a piece of the same letters
  abbrev pub IsPieceClone : Piece (Item A) → Piece (Item A) → Type 0
  IsPieceClone Many piece = piece ≡ Many
  IsPieceClone (One item) piece = (clone : Item A) × (piece ≡ One clone) × IsItemClone item clone
