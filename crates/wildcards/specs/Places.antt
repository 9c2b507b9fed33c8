-- How far pieces have matched, by the number of items: only private contracts name this.
use Rattle.std.specs.Prelude.{◌≡◌, ◌↔◌, ◌<◌, ℕ, zero, suc, List, [], ◌∷◌, get_or}
use Rattle.wildcards.specs.declared.piece.Item.{Item}
use Rattle.wildcards.specs.declared.piece.Piece.{Piece}
use Rattle.wildcards.specs.declared.piece.Piece.TheVariants.{Many, One}
use Rattle.wildcards.specs.Flags.{Set}
use Rattle.wildcards.specs.Match.{Fits}

module _ {X : Type 0} where
  -- how many pieces aren't wildcards
  abbrev pub items : List (Piece X) → ℕ
  items [] = zero
  items (Many ∷ ps) = items ps
  items (One x ∷ ps) = suc (items ps)

  -- the pieces after so many items
  abbrev pub after : ℕ → List (Piece X) → List (Piece X)
  after zero ps = ps
  after (suc i) [] = []
  after (suc i) (Many ∷ ps) = after (suc i) ps
  after (suc i) (One x ∷ ps) = after i ps

  -- a wildcard comes first
  abbrev pub Stays : List (Piece X) → Type 0
  Stays [] = ⊥
  Stays (Many ∷ ps) = Unit {0}
  Stays (One x ∷ ps) = ⊥

  -- the first item fits the letter
  abbrev pub FitsFirst : {A : Type 0} → (X → A → Type 0) → A → List (Piece X) → Type 0
  FitsFirst FitsOne a [] = ⊥
  FitsFirst FitsOne a (Many ∷ ps) = FitsFirst FitsOne a ps
  FitsFirst FitsOne a (One x ∷ ps) = FitsOne x a

  -- the flags of the places after which the pieces are such
  pub record AreFlags (AreSuch : List (Piece X) → Type 0) (ps : List (Piece X)) (word : ℕ) : Type 0 where
    pub each : (i : ℕ) → i < 128 → Set word i ↔ AreSuch (after i ps)

  -- so many pieces aren't wildcards, fewer than the flags of a word
  pub record IsFew (ps : List (Piece X)) (count : ℕ) : Type 0 where
    pub are : count ≡ items ps
    pub few : count < 128

module _ {A : Type 0} where
  -- the flags of the items that fit the letter
  abbrev pub AreFitting : List (Piece (Item A)) → ℕ → ℕ → Type 0
  AreFitting ps letter word = AreFlags (FitsFirst Fits letter) ps word

  -- the flags that are kept for each letter are those of the items that fit it
  pub record AreKnown (ps : List (Piece (Item A))) (letters flags : List ℕ) : Type 0 where
    pub each : (i : ℕ) → i < 128 → AreFitting ps (get_or letters i 0) (get_or flags i 0)
