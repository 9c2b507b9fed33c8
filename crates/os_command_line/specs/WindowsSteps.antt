-- Parts of command lines, read or written. Only private contracts name these.
use Rattle.std.specs.Prelude.{◌≡◌, ◌≢◌, ◌⊎◌, ℕ, ◌+◌, ◌<◌, ◌≤◌, Bool, true, false, Option, MatchOption, List, [], ◌∷◌, ◌++◌, length, take, drop, nat_eq, if◌then◌else◌}
use Rattle.std.specs.List.{AllByRecursion}
use Rattle.wtf8_core.specs.Wtf8.{IsWtf8}
use Rattle.wtf8_core.specs.UnitsOf.{units_of}
use Rattle.os_command_line.specs.declared.windows.place.Place.{Place}
use Rattle.os_command_line.specs.Windows.{backslash, quote, backslashes, IsBlank, StartsWithNoQuote, Ends, Reads, IsNext, ReadsName}
use Rattle.os_command_line.specs.WindowsReader.{meant, first_index, name_index, index_at, meant_mark, units_left}

-- from here, after `run` backslashes, the text goes on as from there, where these units of the argument come first
abbrev pub Leads : Bool → ℕ → List ℕ → List ℕ → Bool → ℕ → List ℕ → Type 0
Leads inside run text added inside' run' text' =
    (argument after : List ℕ) → Reads after inside' (backslashes run' ++ text') argument → Reads after inside (backslashes run ++ text) (added ++ argument)

-- a unit of a part: no quotation mark and, outside quotation marks, no blank
pub record IsInPart (inside : Bool) (u : ℕ) : Type 0 where
  pub no_quote : u ≢ quote
  pub no_blank : inside ≡ false → ¬ (IsBlank u)

-- a text is cut after a part: before a quotation mark, or where the word ends
pub record IsPartCut (inside : Bool) (text part rest : List ℕ) : Type 0 where
  pub joined : text ≡ part ++ rest
  pub is_part : AllByRecursion (IsInPart inside) part
  pub end : StartsWithNoQuote rest → Ends inside rest

-- where the part ends with which a text begins, or that all of the text is in it
abbrev pub IsPartEnd : Bool → List ℕ → Option ℕ → Type 0
IsPartEnd inside text found = MatchOption found (AllByRecursion (IsInPart inside) text) (λ at. (at < length text) × IsPartCut inside text (take at text) (drop at text))

-- a quotation mark of an argument was read after `run` backslashes, or two marks
pub record IsQuoteStep (inside : Bool) (run : ℕ) (text : List ℕ) (inside' : Bool) (text' : List ℕ) : Type 0 where
  pub taken : List ℕ
  pub parts : text ≡ taken ++ text'
  pub added : List ℕ
  pub leads : Leads inside run text added inside' 0 text'
  pub shorter : length text' < length text

-- a text begins with an argument, which has no quotation mark if it is bare, and then comes `rest`
pub record BeginsArgument (text rest : List ℕ) (bare : Bool) : Type 0 where
  pub argument : List ℕ
  pub raw : List ℕ
  pub reads : Reads rest false text argument
  pub joined : text ≡ raw ++ rest
  pub is_bare : bare ≡ true → AllByRecursion (IsInPart false) raw

-- a string of Windows after blanks is the text of an argument and the rest, by bytes; the units are read so
pub record IsArgumentCut (line raw rest : List ℕ) : Type 0 where
  pub raw_formed : IsWtf8 raw
  pub rest_formed : IsWtf8 rest
  pub next : IsNext (units_of line) (meant first_index (units_of raw)) (units_of rest)

-- the same, and an argument without quotation marks means itself
pub record IsArgument (line raw rest : List ℕ) (bare : Bool) : Type 0 where
  pub cut : IsArgumentCut line raw rest
  pub itself : bare ≡ true → meant first_index (units_of raw) ≡ units_of raw

-- and of a program's name
pub record IsNameCut (line raw rest : List ℕ) : Type 0 where
  pub raw_formed : IsWtf8 raw
  pub rest_formed : IsWtf8 rest
  pub reads : ReadsName (units_of rest) false (units_of line) (meant name_index (units_of raw))

-- the number of backslashes at the end of a text that follows n of them
abbrev pub last_run : ℕ → List ℕ → ℕ
last_run n [] = n
last_run n (u ∷ us) = last_run (if nat_eq u backslash then n + 1 else 0) us

-- the text ends with exactly this number of backslashes
abbrev pub EndsWithRun : List ℕ → ℕ → Type 0
EndsWithRun text run = (prefix : List ℕ) × (text ≡ prefix ++ backslashes run) × (last_run 0 prefix ≡ 0)

-- a text is cut around its first quotation mark
pub record IsCutAtQuote (text before after : List ℕ) : Type 0 where
  pub none_before : AllByRecursion (λ u. u ≢ quote) before
  pub joined : text ≡ before ++ quote ∷ after

-- `before` a quotation mark the first `len` bytes mean themselves, and the mark too if it is meant, and from after it the text goes on as from there:
-- so it is in units, which are those of bytes and then backslashes
pub record IsAtQuote (from : Place) (before : List ℕ) (len : ℕ) (mark : Bool) (to : Place) : Type 0 where
  pub prefix : List ℕ
  pub run : ℕ
  pub kept : ℕ
  pub before_is : before ≡ prefix ++ backslashes run
  pub kept_within : kept ≤ run
  pub len_is : len ≡ length prefix + kept
  pub means : (us rest : List ℕ) → AllByRecursion (λ u. u ≢ quote) us → last_run 0 us ≡ last_run 0 prefix → (us ≡ [] → prefix ≡ []) × (prefix ≡ [] → us ≡ [])
      → meant (index_at from) (us ++ (backslashes run ++ quote ∷ rest)) ≡ us ++ (backslashes kept ++ (meant_mark mark ++ meant (index_at to) rest))

-- a text that isn't empty is a piece that means itself, a quotation mark if one is meant, and the rest
pub record IsPieceCut (from : Place) (text piece : List ℕ) (mark : Bool) (to : Place) (rest : List ℕ) : Type 0 where
  pub means : meant (index_at from) (units_of text) ≡ units_left (units_of piece) mark to (units_of rest)
  pub shorter : length rest < length text

-- the next unit is taken, or 0 where there is none
abbrev pub TakesUnit : List ℕ → ℕ → List ℕ → Type 0
TakesUnit us u rest = (us ≡ u ∷ rest) ⊎ ((us ≡ []) × (u ≡ 0) × (rest ≡ []))

-- a path with these four units first is verbatim
abbrev pub BeginsVerbatim : ℕ → ℕ → ℕ → ℕ → Type 0
BeginsVerbatim first second third fourth = (first ≡ 0x5C) × (((second ≡ 0x5C) ⊎ (second ≡ 0x3F)) × ((third ≡ 0x3F) × (fourth ≡ 0x5C)))
