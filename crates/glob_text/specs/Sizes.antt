-- How large choices are: only private contracts name this.
use Rattle.std.specs.Prelude.{◌+◌, ◌-◌, ◌^◌, ℕ, List, length, min}
use Rattle.glob_text.specs.declared.size.Size.{Size}
use Rattle.glob_text.specs.Alternatives.{mark_count}

-- the number, or the greatest of a word
abbrev pub in_word : ℕ → ℕ
in_word n = min n (2 ^ 64 - 1)

-- the size of choices
abbrev pub size_of : {X : Type 0} → List (List X) → Size
size_of cs = record { choices = in_word (length cs); marks = in_word (mark_count cs) }

-- that of both
abbrev pub both_sizes : Size → Size → Size
both_sizes a b = record { choices = in_word (a.choices + b.choices); marks = in_word (a.marks + b.marks) }

-- that of choices with one more mark each
abbrev pub with_mark : Size → Size
with_mark a = record { choices = a.choices; marks = in_word (a.marks + a.choices) }

-- that of one choice without marks
abbrev pub nothing_size : Size
nothing_size = record { choices = 1; marks = 0 }
