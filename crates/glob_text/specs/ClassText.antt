-- How a class is written (POSIX, "Base Definitions", 9.3.5): `[`, then `!` or `^` if it is negated, members, and `]`, which is a member if it comes first.
use Rattle.std.specs.Prelude.{◌≡◌, ℕ, Bool, true, false, not, nat_eq, nat_lt, ◌&&◌, ◌||◌, cond, List, [], ◌∷◌, Option, Some, None}
use Rattle.wildcards.specs.declared.range.Range.{Range}
use Rattle.glob_text.specs.declared.symbol.Symbol.{Symbol}
use Rattle.wildcards.specs.declared.class_name.ClassName.{ClassName}
use Rattle.glob_text.specs.declared.fault.PatternFault.{PatternFault}
use Rattle.glob_text.specs.declared.fault.FaultKind.TheVariants.{UnclosedClass, ReversedRange, UnknownClassName}
use Rattle.glob_text.specs.declared.class_text.ClassLetter.{ClassLetter}
use Rattle.glob_text.specs.declared.class_text.Before.{Before}
use Rattle.glob_text.specs.declared.class_text.Before.TheVariants.{First, From, Nothing}
use Rattle.wildcards.specs.ClassName.{name_text, all_names, name_ranges, range}
use Rattle.wildcards.specs.Items.{ReadsLists}

-- the letter, and not quoted
abbrev pub is_plain : ClassLetter → ℕ → Bool
is_plain l letter = not l.quoted && nat_eq l.symbol.letter letter

-- the letter that a backslash quotes, and what comes after it
abbrev pub quoted_letter : List Symbol → Option (ClassLetter × List Symbol)
quoted_letter [] = None
quoted_letter (y ∷ ys) = Some (record { symbol = y; quoted = true }, ys)

-- the first letter of a class's text, and what comes after it: a backslash quotes the next, if it may
abbrev pub letter_at : Bool → List Symbol → Option (ClassLetter × List Symbol)
letter_at quotes [] = None
letter_at quotes (x ∷ xs) = cond (quotes && nat_eq x.letter 0x5C) (quoted_letter xs) (Some (record { symbol = x; quoted = false }, xs))

-- what comes after the bytes, where the symbols begin with them
abbrev pub after_text : List ℕ → List Symbol → Option (List Symbol)
after_text [] xs = Some xs
after_text (b ∷ bs) [] = None
after_text (b ∷ bs) (x ∷ xs) = cond (nat_eq x.letter b) (after_text bs xs) None

-- the name, where there is something after it, or else another
abbrev pub or_name : ClassName → Option (List Symbol) → Option (ClassName × List Symbol) → Option (ClassName × List Symbol)
or_name name (Some rest) other = Some (name, rest)
or_name name None other = other

-- the first of the names that the symbols begin with, and what comes after it
abbrev pub known_name : List ClassName → List Symbol → Option (ClassName × List Symbol)
known_name [] xs = None
known_name (name ∷ names) xs = or_name name (after_text (name_text name) xs) (known_name names xs)

-- the first `]` comes right after a `:`
abbrev pub ends_name : Bool → List Symbol → Bool
ends_name colon [] = false
ends_name colon (x ∷ xs) = cond (nat_eq x.letter 0x5D) colon (ends_name (nat_eq x.letter 0x3A) xs)

-- what comes after `[:`, where a name is closed there
abbrev pub named_text : ClassLetter → List Symbol → Option (List Symbol)
named_text l [] = None
named_text l (x ∷ xs) = cond ((is_plain l 0x5B && nat_eq x.letter 0x3A) && ends_name false xs) (Some xs) None

-- the letter closes the class
abbrev pub closes : Before → ClassLetter → Bool
closes First l = false
closes (From s) l = is_plain l 0x5D
closes Nothing l = is_plain l 0x5D

-- the last letter of a range, and what comes after it: a `]` is none
abbrev pub range_end : Option (ClassLetter × List Symbol) → Option (ℕ × List Symbol)
range_end None = None
range_end (Some to) = cond (is_plain to.0 0x5D) None (Some (to.0.symbol.letter, to.1))

-- the letter, and the last one of its range
abbrev pub from_to : Symbol → Option (ℕ × List Symbol) → Option (Symbol × ℕ × List Symbol)
from_to s None = None
from_to s (Some to) = Some (s, to.0, to.1)

-- where the letter is a `-`, after a letter of its own and before another, the range's first letter and its last, and what comes after it
abbrev pub range_at : Bool → Before → ClassLetter → List Symbol → Option (Symbol × ℕ × List Symbol)
range_at quotes First l xs = None
range_at quotes Nothing l xs = None
range_at quotes (From s) l xs = cond (is_plain l 0x2D) (from_to s (range_end (letter_at quotes xs))) None

-- what comes next in a class: a fault, what closes it and what comes after that, or a member: its letters, what it is for the next, and what comes after it
pub data ClassReading : Type 0 where
  broken : PatternFault → ClassReading
  closed : List Symbol → ClassReading
  member : List Range → Before → List Symbol → ClassReading

-- a named class, whose name has to be known
abbrev pub with_name : ℕ → Option (ClassName × List Symbol) → ClassReading
with_name index (Some known) = member (name_ranges known.0) Nothing known.1
with_name index None = broken (record { kind = UnknownClassName; index = index })

-- a named class, or a letter
abbrev pub with_text : ClassLetter → List Symbol → Option (List Symbol) → ClassReading
with_text l xs (Some text) = with_name l.symbol.index (known_name all_names text)
with_text l xs None = member (range l.symbol.letter l.symbol.letter ∷ []) (From l.symbol) xs

-- a range, whose last letter doesn't come before its first
abbrev pub with_range : ClassLetter → List Symbol → Option (Symbol × ℕ × List Symbol) → ClassReading
with_range l xs (Some r) = cond (nat_lt r.1 r.0.letter) (broken (record { kind = ReversedRange; index = r.0.index })) (member (range r.0.letter r.1 ∷ []) Nothing r.2)
with_range l xs None = with_text l xs (named_text l xs)

module _ (quotes : Bool) (index : ℕ) where
  -- what comes next in a class whose `[` has this index, by what comes before it
  abbrev pub after_letter : Before → Option (ClassLetter × List Symbol) → ClassReading
  after_letter before None = broken (record { kind = UnclosedClass; index = index })
  after_letter before (Some l) = cond (closes before l.0) (closed l.1) (with_range l.0 l.1 (range_at quotes before l.0 l.1))

  abbrev pub member_at : Before → List Symbol → ClassReading
  member_at before text = after_letter before (letter_at quotes text)

  -- a member is read
  abbrev pub IsMember : Before × List Symbol → List Range → Before × List Symbol → Type 0
  IsMember start ranges left = member_at start.0 start.1 ≡ member ranges left.0 left.1

-- whether a class is negated, and what comes after that
abbrev pub negation : List Symbol → Bool × List Symbol
negation [] = (false, [])
negation (x ∷ xs) = cond (nat_eq x.letter 0x21 || nat_eq x.letter 0x5E) (true, xs) (false, x ∷ xs)

module _ (quotes : Bool) (index : ℕ) where
  -- the members are read up to what is left
  abbrev pub AreMembers : List Symbol → List Range → Before × List Symbol → Type 0
  AreMembers text ranges left = ReadsLists (IsMember quotes index) (First, (negation text).1) ranges left

  -- a class whose `[` has this index is written in the text, which comes after that: whether it is negated, its ranges, and what comes after it
  pub record IsClass (text : List Symbol) (negated : Bool) (ranges : List Range) (rest : List Symbol) : Type 0 where
    pub sign : negated ≡ (negation text).0
    pub left : Before × List Symbol
    pub read : AreMembers text ranges left
    pub ends : member_at quotes index left.0 left.1 ≡ closed rest

  -- it isn't written right
  pub record IsClassFault (text : List Symbol) (fault : PatternFault) : Type 0 where
    pub ranges : List Range
    pub left : Before × List Symbol
    pub read : AreMembers text ranges left
    pub stops : member_at quotes index left.0 left.1 ≡ broken fault
