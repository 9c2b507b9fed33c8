-- The named classes of POSIX, over ASCII ("Base Definitions", 7.3.1, the POSIX locale).
use Rattle.std.specs.Prelude.{ℕ, List, [], ◌∷◌, codes}
use Rattle.wildcards.specs.declared.range.Range.{Range}
use Rattle.wildcards.specs.declared.class_name.ClassName.{ClassName}
use Rattle.wildcards.specs.declared.class_name.ClassName.TheVariants.{Alnum, Alpha, Blank, Cntrl, Digit, Graph, Lower, Print, Punct, Space, Upper, Xdigit}

-- the names of classes, with what closes them
abbrev pub name_text : ClassName → List ℕ
name_text Alnum = codes "alnum:]"
name_text Alpha = codes "alpha:]"
name_text Blank = codes "blank:]"
name_text Cntrl = codes "cntrl:]"
name_text Digit = codes "digit:]"
name_text Graph = codes "graph:]"
name_text Lower = codes "lower:]"
name_text Print = codes "print:]"
name_text Punct = codes "punct:]"
name_text Space = codes "space:]"
name_text Upper = codes "upper:]"
name_text Xdigit = codes "xdigit:]"

abbrev pub all_names : List ClassName
all_names = Alnum ∷ Alpha ∷ Blank ∷ Cntrl ∷ Digit ∷ Graph ∷ Lower ∷ Print ∷ Punct ∷ Space ∷ Upper ∷ Xdigit ∷ []

-- the letters from the first to the last
abbrev pub range : ℕ → ℕ → Range
range first last = record { first = first; last = last }

-- digits, and small and capital letters
abbrev pub digits : Range
digits = range 0x30 0x39

abbrev pub capitals : Range
capitals = range 0x41 0x5A

abbrev pub smalls : Range
smalls = range 0x61 0x7A

-- the letters of a named class
abbrev pub name_ranges : ClassName → List Range
name_ranges Alnum = digits ∷ capitals ∷ smalls ∷ []
name_ranges Alpha = capitals ∷ smalls ∷ []
name_ranges Blank = range 0x9 0x9 ∷ range 0x20 0x20 ∷ []
name_ranges Cntrl = range 0x0 0x1F ∷ range 0x7F 0x7F ∷ []
name_ranges Digit = digits ∷ []
name_ranges Graph = range 0x21 0x7E ∷ []
name_ranges Lower = smalls ∷ []
name_ranges Print = range 0x20 0x7E ∷ []
name_ranges Punct = range 0x21 0x2F ∷ range 0x3A 0x40 ∷ range 0x5B 0x60 ∷ range 0x7B 0x7E ∷ []
name_ranges Space = range 0x9 0xD ∷ range 0x20 0x20 ∷ []
name_ranges Upper = capitals ∷ []
name_ranges Xdigit = digits ∷ range 0x41 0x46 ∷ range 0x61 0x66 ∷ []
