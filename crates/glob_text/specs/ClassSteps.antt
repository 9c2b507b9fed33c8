-- What the reader of a class returns: only private contracts name this.
use Rattle.std.specs.Prelude.{◌≡◌, ◌<◌, ◌++◌, Bool, false, cond, nat_eq, length, List, []}
use Rattle.glob_text.specs.declared.symbol.Symbol.{Symbol}
use Rattle.glob_text.specs.declared.class_text.Member.{Member}
use Rattle.glob_text.specs.declared.class_text.Member.TheVariants as member
use Rattle.glob_text.specs.declared.class_text.NameEnd.{NameEnd}
use Rattle.glob_text.specs.declared.class_text.Next.{Next}
use Rattle.glob_text.specs.declared.class_text.Next.TheVariants as next
use Rattle.wildcards.specs.declared.range.Range.{Range}
use Rattle.std.specs.Prelude.{◌∷◌}
use Rattle.wildcards.specs.ClassName.{name_ranges}
use Rattle.glob_text.specs.ClassText.{ClassReading, broken, closed}
use Rattle.glob_text.specs.ClassText as text

-- the letters of a member
abbrev pub member_ranges : Member → List Range
member_ranges (member.Letters range) = range ∷ []
member_ranges (member.Named name) = name_ranges name

-- the result as the definitions have it
abbrev pub reading_of : Next → ClassReading
reading_of (next.Broken fault) = broken fault
reading_of (next.Closed rest) = closed rest.now
reading_of (next.Member m before rest) = text.member (member_ranges m) before rest.now

-- less is left
abbrev pub LeavesLess : List Symbol → Next → Type 0
LeavesLess text (next.Broken fault) = Unit {0}
LeavesLess text (next.Closed rest) = length rest.now < length text
LeavesLess text (next.Member m before rest) = length rest.now < length text

-- where the first `]` is: the number of symbols from it on, which is 0 where there is none, and whether a `:` comes right before it
abbrev pub first_end : Bool → List Symbol → NameEnd
first_end colon [] = record { left = 0; after_colon = false }
first_end colon (x ∷ xs) = cond (nat_eq x.letter 0x5D) (record { left = length (x ∷ xs); after_colon = colon }) (first_end (nat_eq x.letter 0x3A) xs)

-- the first `]` of the text is there, whatever comes before the text
abbrev pub IsFirstEnd : List Symbol → NameEnd → Type 0
IsFirstEnd text end = (colon : Bool) × (end ≡ first_end colon text)

-- the text ends with the rest
abbrev pub EndsWith : List Symbol → List Symbol → Type 0
EndsWith text rest = (skipped : List Symbol) × (text ≡ skipped ++ rest)

-- the first `]` of a text that ends with this one is there
abbrev pub IsEndBefore : List Symbol → NameEnd → Type 0
IsEndBefore rest end = (text : List Symbol) × (IsFirstEnd text end × EndsWith text rest)
