-- The components of a path: what is between its separators.
use Rattle.std.specs.Prelude.{ℕ, Bool, true, false, nat_eq, ◌||◌, List, [], ◌∷◌}
use Rattle.std.specs.List.{slice_split}
use Rattle.wildcards.specs.declared.separators.Separators.{Separators}
use Rattle.wildcards.specs.declared.separators.Separators.TheVariants as separators

-- the letter is a separator
abbrev pub separates : Separators → ℕ → Bool
separates separators.None letter = false
separates separators.Slash letter = nat_eq letter 0x2F
separates separators.SlashAndBackslash letter = nat_eq letter 0x2F || nat_eq letter 0x5C

-- the components of a path: what is before, between and after its separators
abbrev pub components : Separators → List ℕ → List (List ℕ)
components s path = slice_split (separates s) path

-- the component begins with a dot that only a dot matches
abbrev pub is_hidden : Bool → List ℕ → Bool
is_hidden false component = false
is_hidden true [] = false
is_hidden true (letter ∷ component) = nat_eq letter 0x2E
