-- What the reader of a class returns, and the ranges that it compiles members to: only private contracts name this.
use Rattle.std.specs.Prelude.{◌≡◌, ℕ, ◌<◌, ◌≤◌, ◌+◌, ◌-◌, max, min, Bool, true, false, nat_eq, cond, length, List, [], ◌∷◌, ◌++◌}
use Rattle.wildcards.specs.declared.range.Range.{Range}
use Rattle.wildcards.specs.declared.class_name.ClassName.{ClassName}
use Rattle.wildcards.specs.declared.class_name.ClassName.TheVariants.{Space}
use Rattle.wildcards.specs.ClassName.{range, smalls}
use Rattle.wildcards.specs.ClassName as posix
use Rattle.os_ignore.specs.declared.class.Member.{Member}
use Rattle.os_ignore.specs.declared.class.Member.TheVariants as written
use Rattle.os_ignore.specs.declared.letter.Letter.{Letter}
use Rattle.os_ignore.specs.declared.class_text.Next.{Next}
use Rattle.os_ignore.specs.declared.class_text.Next.TheVariants as next
use Rattle.os_ignore.specs.Class.{is_upper}
use Rattle.os_ignore.specs.ClassText.{Reading, broken, closed, member, ends_name}

-- the result as the definitions have it
abbrev pub reading_of : Next → Reading
reading_of next.Broken = broken
reading_of (next.Closed rest) = closed rest.now
reading_of (next.Member m before rest) = member m before rest.now

-- less is left
abbrev pub LeavesLess : List Letter → Next → Type 0
LeavesLess text next.Broken = Unit {0}
LeavesLess text (next.Closed rest) = length rest.now < length text
LeavesLess text (next.Member m before rest) = length rest.now < length text

-- the letters from the first `]` on
abbrev pub from_bracket : List Letter → List Letter
from_bracket [] = []
from_bracket (l ∷ ls) = cond (nat_eq l.byte 0x5D) (l ∷ ls) (from_bracket ls)

-- in no suffix of n letters or more the first `]` ends a name
abbrev pub AreNameless : ℕ → List Letter → Type 0
AreNameless n letters = (front ys : List Letter) → letters ≡ front ++ ys → n ≤ length ys → ends_name false ys ≡ false

-- nor in one that comes after two letters, as those of `[:`
abbrev pub AreNamelessWithin : ℕ → List Letter → Type 0
AreNamelessWithin n letters = (front ys : List Letter) → letters ≡ front ++ ys → 1 < length front → n ≤ length ys → ends_name false ys ≡ false

-- the ranges of a named class, as git has it: `space` is blank, tab, line feed and carriage return
abbrev pub name_ranges : ClassName → List Range
name_ranges Space = range 0x20 0x20 ∷ range 0x9 0x9 ∷ range 0xA 0xA ∷ range 0xD 0xD ∷ []
name_ranges name = posix.name_ranges name

-- those of a member
abbrev pub exact_ranges : Member → List Range
exact_ranges (written.Single b) = range b b ∷ []
exact_ranges (written.Range from to) = range from to ∷ []
exact_ranges (written.Named name) = name_ranges name

-- the small letters whose capitals are in a range
abbrev pub small_range : ℕ → ℕ → Range
small_range from to = range (max from 0x41 + 0x20) (min to 0x5A + 0x20)

-- those whose capitals are in a member
abbrev pub small_ranges : Member → List Range
small_ranges (written.Single b) = []
small_ranges (written.Range from to) = small_range from to ∷ []
small_ranges (written.Named name) = cond (is_upper name) (smalls ∷ []) []

-- the letters of a member, without regard to case if the file folds
abbrev pub member_ranges : Bool → Member → List Range
member_ranges false m = exact_ranges m
member_ranges true m = exact_ranges m ++ small_ranges m

-- the letters whose small letters are in a range
abbrev pub both_cases : Range → List Range
both_cases r = range r.first (min r.last 0x40) ∷ range (max r.first 0x5B) r.last ∷ range (max r.first 0x61 - 0x20) (max (min r.last 0x7A) 0x20 - 0x20) ∷ []

-- and in one of several
abbrev pub all_cases : List Range → List Range
all_cases [] = []
all_cases (r ∷ rs) = both_cases r ++ all_cases rs
