-- What the exports return, by its number in C.
use Rattle.std.specs.Prelude.{ℕ, ◌<◌, List, [], ◌∷◌}

-- the call did what it is for
abbrev pub done : ℕ
done = 0

-- the bytes aren't a string of the platform
abbrev pub faulty : ℕ
faulty = 1

-- the buffer is too short
abbrev pub no_room : ℕ
no_room = 2

-- there is none, or it isn't so
abbrev pub none : ℕ
none = 3

-- there are no more items
abbrev pub ended : ℕ
ended = 4

-- a backslash of the escape begins no token
abbrev pub bad_escape : ℕ
bad_escape = 5

-- the escape isn't that of any string of the platform
abbrev pub no_string : ℕ
no_string = 6

-- the name has a NUL
abbrev pub has_nul : ℕ
has_nul = 7

-- the line isn't words
abbrev pub bad_line : ℕ
bad_line = 8

-- the program's name has a quotation mark
abbrev pub has_quote : ℕ
has_quote = 9

-- an allocation failed
abbrev pub no_memory : ℕ
no_memory = 11

-- a path is rejected
abbrev pub bad_path : ℕ
bad_path = 12

-- there is no such platform
abbrev pub no_platform : ℕ
no_platform = 16

-- the pattern or the escape isn't UTF-8, or the pattern is empty where it may not be, or has a fault
abbrev pub no_pattern : ℕ
no_pattern = 17

-- the index is past the end
abbrev pub no_index : ℕ
no_index = 18

-- there is no such fault
abbrev pub no_fault : ℕ
no_fault = 19

-- there is no such state of a checker
abbrev pub no_state : ℕ
no_state = 20

-- the string is too long for its text's length to be a number of the machine
abbrev pub too_long : ℕ
too_long = 21

-- there is no such option
abbrev pub no_option : ℕ
no_option = 22

-- an extension has a separator
abbrev pub no_extension : ℕ
no_extension = 23

-- there is a set already
abbrev pub full : ℕ
full = 25

-- there is no set
abbrev pub empty : ℕ
empty = 26

-- all of them
abbrev pub statuses : List ℕ
statuses = done ∷ faulty ∷ no_room ∷ none ∷ ended ∷ bad_escape ∷ no_string ∷ has_nul ∷ bad_line ∷ has_quote ∷ no_memory ∷ bad_path ∷ no_platform ∷ no_pattern ∷ no_index ∷ no_fault ∷ no_state ∷ too_long ∷ no_option ∷ no_extension ∷ full ∷ empty ∷ []

-- each number is less than the next, so that no two are equal
abbrev pub IsAscending : List ℕ → Type 0
IsAscending [] = Unit {0}
IsAscending (one ∷ []) = Unit {0}
IsAscending (one ∷ other ∷ others) = (one < other) × IsAscending (other ∷ others)
