-- Pieces and paths by small letters: only private contracts name this.
use Rattle.std.specs.Prelude.{◌≡◌, ◌<◌, Bool, true, false, ℕ, List, [], ◌∷◌, map, IsTrue}
use Rattle.std.specs.Char.{to_ascii_lowercase}
use Rattle.std.specs.List.{AllByRecursion}
use Rattle.wildcards.specs.declared.options.Options.{Options}
use Rattle.wildcards.specs.declared.key.Kind.{Kind}
use Rattle.wildcards.specs.declared.part.Part.{Part}
use Rattle.wildcards.specs.declared.piece.Item.{Item}
use Rattle.wildcards.specs.declared.piece.Item.TheVariants.{Literal}
use Rattle.wildcards.specs.declared.piece.Piece.{Piece}
use Rattle.wildcards.specs.declared.piece.Piece.TheVariants.{Many, One}
use Rattle.wildcards.specs.Keys.{HasKey}
use Rattle.wildcards.specs.Match.{Fits, Matches}
use Rattle.wildcards.specs.Ranges.{is_in}
use Rattle.wildcards.specs.declared.range.Range.{Range}

-- each letter is ASCII
abbrev pub AreAscii : List ℕ → Type 0
AreAscii path = AllByRecursion (λ b. b < 0x80) path

-- the letters of ASCII in the ranges have this small letter
abbrev pub HasOneSmall : List Range → ℕ → Type 0
HasOneSmall ranges small = (letter : ℕ) → letter < 0x80 → is_in ranges letter ≡ true → to_ascii_lowercase letter ≡ small

module _ {X Y : Type 0} where
  -- both are wildcards, or what is in them is related
  abbrev pub IsPaired : (X → Y → Type 0) → Piece X → Piece Y → Type 0
  IsPaired Is Many Many = Unit {0}
  IsPaired Is Many (One y) = ⊥
  IsPaired Is (One x) Many = ⊥
  IsPaired Is (One x) (One y) = Is x y

  -- so of each piece
  abbrev pub ArePaired : (X → Y → Type 0) → List (Piece X) → List (Piece Y) → Type 0
  ArePaired Is [] [] = Unit {0}
  ArePaired Is [] (q ∷ qs) = ⊥
  ArePaired Is (p ∷ ps) [] = ⊥
  ArePaired Is (p ∷ ps) (q ∷ qs) = IsPaired Is p q × ArePaired Is ps qs

module _ {A : Type 0} where
  -- the item matches the small letter of each letter of ASCII that the other matches, and is a dot where that is one
  pub record IsSmallItem (item small : Item A) : Type 0 where
    pub fits : (letter : ℕ) → letter < 0x80 → Fits item letter → Fits small (to_ascii_lowercase letter)
    pub dot : item ≡ Literal 0x2E → small ≡ Literal 0x2E

  -- so of a part
  abbrev pub IsSmallPart : Part A → Part A → Type 0
  IsSmallPart part small = ArePaired IsSmallItem part.pieces.items small.pieces.items

-- a path by its small letters, if it folds
abbrev pub folded : Bool → List ℕ → List ℕ
folded false path = path
folded true path = map to_ascii_lowercase path

-- the path is looked up: if it folds, only one of ASCII is
abbrev pub IsLookedUp : Bool → List ℕ → Type 0
IsLookedUp false path = Unit {0}
IsLookedUp true path = AreAscii path

module _ {A : Type 0} where
  -- each path that the pieces match and that is looked up has the key, which is ASCII
  pub record IsNeededBy (folds : Bool) (o : Options) (pieces : List (Piece (Part A))) (k : Kind) (n : ℕ) (key : List ℕ) : Type 0 where
    pub ascii : AreAscii key
    pub needed : (path : List ℕ) → IsLookedUp folds path → Matches o pieces path → HasKey o k n (folded folds path) key
