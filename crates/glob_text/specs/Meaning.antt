-- Which paths a pattern without alternatives matches, by its marks alone.
use Rattle.std.specs.Prelude.{◌≡◌, ◌⊎◌, ℕ, Bool, true, false, nat_eq, List, [], ◌∷◌, ◌++◌, map, IsTrue}
use Rattle.std.specs.List.{slice_split}
use Rattle.wildcards.specs.declared.options.Options.{Options}
use Rattle.wildcards.specs.declared.piece.Piece.{Piece}
use Rattle.wildcards.specs.declared.piece.Piece.TheVariants.{Many, One}
use Rattle.wildcards.specs.declared.separators.Separators.{Separators}
use Rattle.wildcards.specs.Components.{components, is_hidden}
use Rattle.wildcards.specs.Match.{TakesComponent, TakesLetter}
use Rattle.wildcards.specs.Ranges.{permits}
use Rattle.wildcards.specs.Wild.{Wild}
use Rattle.wildcards.specs.Groups.{group}
use Rattle.glob_text.specs.Marks.{Mark, literal, any, star, one_of, opens, comma, closes}
use Rattle.glob_text.specs.Parts.{is_separator, is_deep}

-- the mark, which isn't `*`, matches the letter
abbrev pub FitsMark : Mark → ℕ → Type 0
FitsMark (literal own) letter = own ≡ letter
FitsMark any letter = Unit {0}
FitsMark (star again) letter = ⊥
FitsMark (one_of negated ranges) letter = IsTrue (permits negated ranges letter)
FitsMark (opens index) letter = 0x7B ≡ letter
FitsMark comma letter = 0x2C ≡ letter
FitsMark (closes index) letter = 0x7D ≡ letter

-- `*` takes any number of letters, any other mark one
abbrev pub mark_piece : Mark → Piece Mark
mark_piece (literal own) = One (literal own)
mark_piece any = One any
mark_piece (star again) = Many
mark_piece (one_of negated ranges) = One (one_of negated ranges)
mark_piece (opens index) = One (opens index)
mark_piece comma = One comma
mark_piece (closes index) = One (closes index)

-- the marks begin with a literal dot
abbrev pub begins_dotted : List Mark → Bool
begins_dotted [] = false
begins_dotted (literal own ∷ ms) = nat_eq own 0x2E
begins_dotted (any ∷ ms) = false
begins_dotted (star again ∷ ms) = false
begins_dotted (one_of negated ranges ∷ ms) = false
begins_dotted (opens index ∷ ms) = false
begins_dotted (comma ∷ ms) = false
begins_dotted (closes index ∷ ms) = false

-- the marks match a whole component; a hidden one only if they begin with a literal dot
abbrev pub FitsMarks : Bool → List Mark → List ℕ → Type 0
FitsMarks dot ms component = Wild TakesLetter FitsMark (map mark_piece ms) component × (is_hidden dot component ≡ true → begins_dotted ms ≡ true)

-- there is a part
abbrev pub are_some : List (List Mark) → Bool
are_some [] = false
are_some (p ∷ ps) = true

-- `**` takes any number of components before another part, and one or more at the end; any other part one
abbrev pub part_pieces : Separators → List (List Mark) → List (Piece (List Mark))
part_pieces o [] = []
part_pieces o (p ∷ ps) = group (is_deep o p) (are_some ps) p ++ part_pieces o ps

-- the marks match the letters of a path: their parts its components
abbrev pub MatchesMarks : Options → List Mark → List ℕ → Type 0
MatchesMarks o ms path =
    Wild (TakesComponent o.literal_leading_dot) (FitsMarks o.literal_leading_dot) (part_pieces o.separators (slice_split (is_separator o.separators) ms)) (components o.separators path)

-- one of the choices does
abbrev pub MatchesWrittenOut : Options → List (List Mark) → List ℕ → Type 0
MatchesWrittenOut o [] path = ⊥
MatchesWrittenOut o (c ∷ cs) path = MatchesMarks o c path ⊎ MatchesWrittenOut o cs path
