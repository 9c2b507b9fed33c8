-- Which bytes a class permits (git's wildmatch.c).
use Rattle.std.specs.Prelude.{ℕ, Bool, true, false, not, nat_eq, nat_le, ◌&&◌, ◌||◌, List, [], ◌∷◌}
use Rattle.std.specs.Char.{is_ascii_alphanumeric, is_ascii_alphabetic, is_ascii_control, is_ascii_digit, is_ascii_graphic, is_ascii_lowercase, is_ascii_punctuation, is_ascii_uppercase, is_ascii_hexdigit, to_ascii_uppercase}
use Rattle.wildcards.specs.declared.class_name.ClassName.{ClassName}
use Rattle.wildcards.specs.declared.class_name.ClassName.TheVariants.{Alnum, Alpha, Blank, Cntrl, Digit, Graph, Lower, Print, Punct, Space, Upper, Xdigit}
use Rattle.os_ignore.specs.declared.class.Member.{Member}
use Rattle.os_ignore.specs.declared.class.Member.TheVariants.{Single, Range, Named}
use Rattle.os_ignore.specs.Letters.{folded}

-- the named class, over ASCII, has the byte: git's `space` is blank, tab, line feed and carriage return
abbrev pub is_named : ClassName → ℕ → Bool
is_named Alnum b = is_ascii_alphanumeric b
is_named Alpha b = is_ascii_alphabetic b
is_named Blank b = nat_eq b 0x20 || nat_eq b 0x9
is_named Cntrl b = is_ascii_control b
is_named Digit b = is_ascii_digit b
is_named Graph b = is_ascii_graphic b
is_named Lower b = is_ascii_lowercase b
is_named Print b = nat_eq b 0x20 || is_ascii_graphic b
is_named Punct b = is_ascii_punctuation b
is_named Space b = ((nat_eq b 0x20 || nat_eq b 0x9) || nat_eq b 0xA) || nat_eq b 0xD
is_named Upper b = is_ascii_uppercase b
is_named Xdigit b = is_ascii_hexdigit b

-- the byte is the member, or in it
abbrev pub is_exactly : Member → ℕ → Bool
is_exactly (Single c) b = nat_eq c b
is_exactly (Range from to) b = nat_le from b && nat_le b to
is_exactly (Named name) b = is_named name b

-- the named class is that of capitals
abbrev pub is_upper : ClassName → Bool
is_upper Alnum = false
is_upper Alpha = false
is_upper Blank = false
is_upper Cntrl = false
is_upper Digit = false
is_upper Graph = false
is_upper Lower = false
is_upper Print = false
is_upper Punct = false
is_upper Space = false
is_upper Upper = true
is_upper Xdigit = false

-- the byte is a small letter whose capital is in the range, or in the class of capitals
abbrev pub has_capital : Member → ℕ → Bool
has_capital (Single c) b = false
has_capital (Range from to) b = is_ascii_lowercase b && (nat_le from (to_ascii_uppercase b) && nat_le (to_ascii_uppercase b) to)
has_capital (Named name) b = is_upper name && is_ascii_lowercase b

-- likewise, without regard to case if the file folds
abbrev pub is_member : Bool → Member → ℕ → Bool
is_member false m b = is_exactly m b
is_member true m b = is_exactly m b || has_capital m b

-- the byte is in one of the members
abbrev pub is_in : Bool → List Member → ℕ → Bool
is_in folds [] b = false
is_in folds (m ∷ ms) b = is_member folds m b || is_in folds ms b

-- a class permits its members or, if it is negated, each other byte
abbrev pub permits : Bool → Bool → List Member → ℕ → Bool
permits folds false ms b = is_in folds ms (folded folds b)
permits folds true ms b = not (is_in folds ms (folded folds b))
