-- Patterns of pieces over letters of any kind: the letters of a component, and the components of a path.
use Rattle.std.specs.Prelude.{◌≡◌, List, [], ◌∷◌, ◌++◌}
use Rattle.std.specs.List.{AllByRecursion}
use Rattle.wildcards.specs.declared.piece.Piece.{Piece}
use Rattle.wildcards.specs.declared.piece.Piece.TheVariants.{Many, One}

module _ {A : Type 0} where
  -- any number of letters that a wildcard takes, and a rest
  pub record AfterMany (Takes : A → Type 0) (After : List A → Type 0) (letters : List A) : Type 0 where
    pub skipped : List A
    pub rest : List A
    pub joined : letters ≡ skipped ++ rest
    pub taken : AllByRecursion Takes skipped
    pub after : After rest

  -- a letter that fits, and a rest
  pub record AfterOne (FitsHere : A → Type 0) (After : List A → Type 0) (letters : List A) : Type 0 where
    pub letter : A
    pub rest : List A
    pub joined : letters ≡ letter ∷ rest
    pub fits : FitsHere letter
    pub after : After rest

module _ {X A : Type 0} where
  -- the pieces match the letters, one after the other: a wildcard any number of letters that it takes, each other piece one that fits it
  abbrev pub Wild : (A → Type 0) → (X → A → Type 0) → List (Piece X) → List A → Type 0
  Wild Takes Fits [] letters = letters ≡ []
  Wild Takes Fits (Many ∷ pieces) letters = AfterMany Takes (Wild Takes Fits pieces) letters
  Wild Takes Fits (One x ∷ pieces) letters = AfterOne (Fits x) (Wild Takes Fits pieces) letters
