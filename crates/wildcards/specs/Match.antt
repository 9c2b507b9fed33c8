-- Which paths a compiled pattern matches.
use Rattle.std.specs.Prelude.{◌≡◌, Bool, true, false, ℕ, nat_eq, List, [], ◌∷◌, IsTrue}
use Rattle.std.specs.Char.{to_ascii_lowercase}
use Rattle.wildcards.specs.declared.piece.Item.{Item}
use Rattle.wildcards.specs.declared.piece.Item.TheVariants.{Any, Literal, EitherCase, OneOf}
use Rattle.wildcards.specs.declared.piece.Piece.{Piece}
use Rattle.wildcards.specs.declared.piece.Piece.TheVariants.{Many, One}
use Rattle.wildcards.specs.declared.part.Part.{Part}
use Rattle.wildcards.specs.declared.options.Options.{Options}
use Rattle.wildcards.specs.Classes.{permitted}
use Rattle.wildcards.specs.Components.{components, is_hidden}
use Rattle.wildcards.specs.Wild.{Wild}

-- `*` takes any letter of a component
abbrev pub TakesLetter : ℕ → Type 0
TakesLetter letter = Unit {0}

-- `**` takes each component that isn't hidden
abbrev pub TakesComponent : Bool → List ℕ → Type 0
TakesComponent dot component = is_hidden dot component ≡ false

module _ {A : Type 0} where
  -- the item matches the letter
  abbrev pub Fits : Item A → ℕ → Type 0
  Fits Any letter = Unit {0}
  Fits (Literal own) letter = own ≡ letter
  Fits (EitherCase small) letter = to_ascii_lowercase letter ≡ small
  Fits (OneOf class) letter = IsTrue (permitted class letter)

  -- the pieces begin with a literal dot
  abbrev pub begins_with_dot : List (Piece (Item A)) → Bool
  begins_with_dot [] = false
  begins_with_dot (Many ∷ pieces) = false
  begins_with_dot (One Any ∷ pieces) = false
  begins_with_dot (One (Literal own) ∷ pieces) = nat_eq own 0x2E
  begins_with_dot (One (EitherCase small) ∷ pieces) = false
  begins_with_dot (One (OneOf class) ∷ pieces) = false

  -- the pieces match a whole component; a hidden one only if they begin with a literal dot
  abbrev pub FitsPieces : Bool → List (Piece (Item A)) → List ℕ → Type 0
  FitsPieces dot pieces component = Wild TakesLetter Fits pieces component × (is_hidden dot component ≡ true → begins_with_dot pieces ≡ true)

  -- the part matches a whole component
  abbrev pub FitsComponent : Bool → Part A → List ℕ → Type 0
  FitsComponent dot part component = FitsPieces dot part.pieces.items component

  -- the pieces, whose wildcards are the components `**`, match the components
  abbrev pub MatchesParts : Bool → List (Piece (Part A)) → List (List ℕ) → Type 0
  MatchesParts dot pattern parts = Wild (TakesComponent dot) (FitsComponent dot) pattern parts

  -- the pattern matches the letters of a path
  abbrev pub Matches : Options → List (Piece (Part A)) → List ℕ → Type 0
  Matches o pattern path = MatchesParts o.literal_leading_dot pattern (components o.separators path)
