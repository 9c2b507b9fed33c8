-- The steps of a reader of command lines. Only views and private contracts name these; `Reads`, `ReadsName` and `AreArguments` define how a line is read.
use Rattle.std.specs.Prelude.{ℕ, ◌+◌, ◌/◌, ◌%◌, Bool, true, false, not, nat_eq, ◌&&◌, if◌then◌else◌, List, [], ◌∷◌, ◌++◌}
use Rattle.os_command_line.specs.declared.windows.argument.Kind.{Kind}
use Rattle.os_command_line.specs.declared.windows.argument.Kind.TheVariants.{Marked, Bare}
use Rattle.os_command_line.specs.declared.windows.place.Place.{Place}
use Rattle.os_command_line.specs.Windows.{backslash, quote, backslashes, is_blank}

-- in a program's name or in an argument, right after a quotation mark that closes a part or not, inside quotation marks or not, and after how many backslashes
pub record Index : Type 0 where
  pub in_name : Bool
  pub closing : Bool
  pub inside : Bool
  pub run : ℕ

abbrev pub index : Bool → Bool → Bool → ℕ → Index
index name closing inside run = record { in_name = name; closing = closing; inside = inside; run = run }

-- a blank here is after the word
abbrev pub is_end : Index → ℕ → Bool
is_end p u = not p.inside && is_blank u

-- a backslash that may escape
abbrev pub is_slash : Index → ℕ → Bool
is_slash p u = not p.in_name && nat_eq u backslash

-- what is known to be meant after one more unit
abbrev pub output : Index → ℕ → List ℕ
output p u =
    if p.closing && nat_eq u quote then quote ∷ []
    else (if is_slash p u then []
    else (if nat_eq u quote then (if nat_eq (p.run % 2) 1 then backslashes (p.run / 2) ++ quote ∷ [] else backslashes (p.run / 2))
    else backslashes p.run ++ u ∷ []))

-- where the reader is then
abbrev pub step : Index → ℕ → Index
step p u =
    if p.closing && nat_eq u quote then index false false true 0
    else (if is_slash p u then index p.in_name false p.inside (p.run + 1)
    else (if nat_eq u quote then (if nat_eq (p.run % 2) 1 then index p.in_name false p.inside 0 else index p.in_name (not p.in_name && p.inside) (not p.inside) 0)
    else index p.in_name false p.inside 0))

-- the same with these units in prefix
abbrev pub prepend : List ℕ → List ℕ × List ℕ → List ℕ × List ℕ
prepend prefix read = (prefix ++ read.0, read.1)

-- what is still to come of a word, and what comes after it
unfoldable pub word_from : Index → List ℕ → List ℕ × List ℕ
word_from p [] = (backslashes p.run, [])
word_from p (u ∷ us) = if is_end p u then (backslashes p.run, u ∷ us) else prepend (output p u) (word_from (step p u) us)

-- what is still to come of a text that is one word, whatever blanks are in it
unfoldable pub meant : Index → List ℕ → List ℕ
meant p [] = backslashes p.run
meant p (u ∷ us) = output p u ++ meant (step p u) us

abbrev pub place : Bool → Bool → Bool → Place
place name closing inside = record { in_name = name; closing = closing; inside = inside }

-- the same where no backslash comes before
abbrev pub index_at : Place → Index
index_at p = index p.in_name p.closing p.inside 0

-- a quotation mark that is meant, or none
abbrev pub meant_mark : Bool → List ℕ
meant_mark true = quote ∷ []
meant_mark false = []

-- what is still to come of an argument: these units, a mark if one is meant, and what the rest of its text means from there
abbrev pub units_left : List ℕ → Bool → Place → List ℕ → List ℕ
units_left us mark place rest = us ++ (meant_mark mark ++ meant (index_at place) rest)

-- between arguments, or in an argument, and how much of it was read
pub data Mode : Type 0 where
  Between : Mode
  Within : Index → List ℕ → Mode

abbrev pub first_index : Index
first_index = index false false false 0

abbrev pub name_index : Index
name_index = index true false false 0

-- the kind of an argument that is bare or not
abbrev pub argument_kind : Bool → Kind
argument_kind bare = if bare then Bare else Marked

-- the arguments from here on
unfoldable pub arguments_from : Mode → List ℕ → List (List ℕ)
arguments_from Between [] = []
arguments_from (Within p word) [] = (word ++ backslashes p.run) ∷ []
arguments_from Between (u ∷ us) = if is_blank u then arguments_from Between us else arguments_from (Within (step first_index u) (output first_index u)) us
arguments_from (Within p word) (u ∷ us) = if is_end p u then (word ++ backslashes p.run) ∷ arguments_from Between us else arguments_from (Within (step p u) (word ++ output p u)) us

-- the arguments of a line
abbrev pub arguments_in : List ℕ → List (List ℕ)
arguments_in line = arguments_from Between line
