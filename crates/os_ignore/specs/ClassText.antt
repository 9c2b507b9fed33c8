-- How a class is written (git's wildmatch.c): `[`, then `!` or `^` if it is negated, members, and `]`, which is a member if it comes first.
use Rattle.std.specs.Prelude.{◌≡◌, ℕ, Bool, true, false, not, nat_eq, ◌&&◌, ◌||◌, cond, List, [], ◌∷◌, Option, Some, None}
use Rattle.wildcards.specs.declared.class.Class.{Class}
use Rattle.wildcards.specs.Classes.{permitted}
use Rattle.os_ignore.specs.declared.letter.Letter.{Letter}
use Rattle.wildcards.specs.declared.class_name.ClassName.{ClassName}
use Rattle.wildcards.specs.ClassName.{name_text, all_names}
use Rattle.os_ignore.specs.declared.class.Member.{Member}
use Rattle.os_ignore.specs.declared.class.Member.TheVariants.{Single, Range, Named}
use Rattle.os_ignore.specs.declared.class_text.Before.{Before}
use Rattle.os_ignore.specs.declared.class_text.Before.TheVariants.{First, Byte, Nothing}
use Rattle.os_ignore.specs.Class.{permits}
use Rattle.os_ignore.specs.Letters.{is_plain}
use Rattle.wildcards.specs.Items.{Reads}

-- what comes after the bytes, where the letters begin with them and none is quoted
abbrev pub after_text : List ℕ → List Letter → Option (List Letter)
after_text [] ls = Some ls
after_text (b ∷ bs) [] = None
after_text (b ∷ bs) (l ∷ ls) = cond (is_plain l b) (after_text bs ls) None

-- the name, where there is something after it, or else another
abbrev pub or_name : ClassName → Option (List Letter) → Option (ClassName × List Letter) → Option (ClassName × List Letter)
or_name name (Some rest) other = Some (name, rest)
or_name name None other = other

-- the first of the names that the letters begin with, and what comes after it
abbrev pub known_name : List ClassName → List Letter → Option (ClassName × List Letter)
known_name [] ls = None
known_name (name ∷ names) ls = or_name name (after_text (name_text name) ls) (known_name names ls)

-- the first `]` of the letters isn't quoted, and comes after a `:`
abbrev pub ends_name : Bool → List Letter → Bool
ends_name colon [] = false
ends_name colon (l ∷ ls) = cond (nat_eq l.byte 0x5D) (colon && not l.quoted) (ends_name (nat_eq l.byte 0x3A) ls)

-- what comes after `[:`, where a name is closed there
abbrev pub named_text : Letter → List Letter → Option (List Letter)
named_text l [] = None
named_text l (c ∷ ls) = cond ((is_plain l 0x5B && is_plain c 0x3A) && ends_name false ls) (Some ls) None

-- the letter closes the class
abbrev pub closes : Before → Letter → Bool
closes First l = false
closes (Byte b) l = is_plain l 0x5D
closes Nothing l = is_plain l 0x5D

-- the letter, a `-` after a byte and before another, makes a range of them
abbrev pub range_at : Before → Letter → List Letter → Option (ℕ × ℕ × List Letter)
range_at First l ls = None
range_at Nothing l ls = None
range_at (Byte from) l [] = None
range_at (Byte from) l (to ∷ ls) = cond (is_plain l 0x2D && not (is_plain to 0x5D)) (Some (from, to.byte, ls)) None

-- what comes next in a class: what closes it and what comes after that, a member, or nothing that a class may have
pub data Reading : Type 0 where
  broken : Reading
  closed : List Letter → Reading
  member : Member → Before → List Letter → Reading

-- a named class, whose name has to be known
abbrev pub with_name : Option (ClassName × List Letter) → Reading
with_name (Some known) = member (Named known.0) Nothing known.1
with_name None = broken

-- a named class, or a byte
abbrev pub with_text : Letter → List Letter → Option (List Letter) → Reading
with_text l ls (Some text) = with_name (known_name all_names text)
with_text l ls None = member (Single l.byte) (Byte l.byte) ls

-- a range, or else a named class or a byte
abbrev pub with_range : Letter → List Letter → Option (ℕ × ℕ × List Letter) → Reading
with_range l ls (Some range) = member (Range range.0 range.1) Nothing range.2
with_range l ls None = with_text l ls (named_text l ls)

-- what comes next in a class, by the byte before it
abbrev pub member_at : Before → List Letter → Reading
member_at before [] = broken
member_at before (l ∷ ls) = cond (closes before l) (closed ls) (with_range l ls (range_at before l ls))

-- a member is read
abbrev pub IsMember : Before × List Letter → Member → Before × List Letter → Type 0
IsMember start m left = member_at start.0 start.1 ≡ member m left.0 left.1

-- whether a class is negated, and what comes after that
abbrev pub negation : List Letter → Bool × List Letter
negation [] = (false, [])
negation (l ∷ ls) = cond (is_plain l 0x21 || is_plain l 0x5E) (true, ls) (false, l ∷ ls)

-- the members are read up to what is left
abbrev pub AreMembers : List Letter → List Member → Before × List Letter → Type 0
AreMembers text members left = Reads IsMember (First, (negation text).1) members left

-- the text, which comes after a `[`, doesn't go on as a class: it isn't closed, or has a name that isn't known
pub record IsBrokenClass (text : List Letter) : Type 0 where
  pub members : List Member
  pub left : Before × List Letter
  pub read : AreMembers text members left
  pub stops : member_at left.0 left.1 ≡ broken

module _ {A : Type 0} (folds : Bool) where
  -- a class is written in the text, which comes after a `[`, and this comes after it; the compiled class permits what its members permit
  pub record IsClass (text : List Letter) (class : Class A) (rest : List Letter) : Type 0 where
    pub members : List Member
    pub left : Before × List Letter
    pub read : AreMembers text members left
    pub ends : member_at left.0 left.1 ≡ closed rest
    pub compiled : (b : ℕ) → permitted class b ≡ permits folds (negation text).0 members b
