-- The words of a command line, taken step by step.
use Rattle.std.specs.Prelude.{◌≡◌, ◌≢◌, ℕ, ◌+◌, ◌⊎◌, Bool, true, false, List, [], ◌∷◌, ◌++◌, drop, length, Option, Some, None, Result, Ok, Err}
use Rattle.wtf8_core.specs.Occurrence.{IsPrefix}
use Rattle.os_args.specs.Word.{Kind, Long, LongBytes, Short, ShortBytes, Value, dashes, equals, IsFlag, IsReadAs, IsValueOf}

-- why a step fails: a value that wasn't taken after the last option, a missing value after it, or an unexpected word
pub data Fault : Type 0 where
  UnexpectedValue : Option Kind → List ℕ → Fault
  MissingValue : Option Kind → Fault
  UnexpectedArgument : Kind → Fault

-- how far the words are read. `given` is the words, and `index` the number of them that were taken. `pending` is what is left of the last word taken. `ended` is whether `--` was taken, and `numbers` whether negative numbers are values. `last` is the last option that was read.
pub record Reading : Type 0 where
  pub given : List (List ℕ)
  pub index : ℕ
  pub pending : List ℕ
  pub ended : Bool
  pub numbers : Bool
  pub last : Option Kind

-- the words that are left
abbrev pub words_left : Reading → List (List ℕ)
words_left r = drop r.index r.given

-- r, except that negative numbers are values
abbrev pub with_numbers : Reading → Reading
with_numbers r = record { given = r.given; index = r.index; pending = r.pending; ended = r.ended; numbers = true; last = r.last }

-- r, except that what was left of a word is taken
abbrev pub without_pending : Reading → Reading
without_pending r = record { given = r.given; index = r.index; pending = []; ended = r.ended; numbers = r.numbers; last = r.last }

-- r, except that the next word is taken as it is
abbrev pub without_word : Reading → Reading
without_word r = record { given = r.given; index = r.index + 1; pending = r.pending; ended = r.ended; numbers = r.numbers; last = r.last }

-- r, except that all words are taken
abbrev pub without_words : Reading → Reading
without_words r = record { given = r.given; index = length r.given; pending = r.pending; ended = r.ended; numbers = r.numbers; last = r.last }

-- r, except that `--` is taken
abbrev pub after_dashes : Reading → Reading
after_dashes r = record { given = r.given; index = r.index + 1; pending = r.pending; ended = true; numbers = r.numbers; last = r.last }

-- the last option after a word is read: the word, or the previous option if the word is a value
abbrev pub last_option : Option Kind → Kind → Option Kind
last_option before (Long name) = Some (Long name)
last_option before (LongBytes name) = Some (LongBytes name)
last_option before (Short c) = Some (Short c)
last_option before (ShortBytes rest) = Some (ShortBytes rest)
last_option before (Value value) = before

-- r, except that `index` words are taken, `kind` is read, and `rest` is left of its word
abbrev pub having_read : Reading → ℕ → Kind → List ℕ → Reading
having_read r index kind rest = record { given = r.given; index = index; pending = rest; ended = r.ended; numbers = r.numbers; last = last_option r.last kind }

-- the words that are left begin with `--`, which ends the options
pub record StartsWithDashes (r : Reading) : Type 0 where
  pub more : List (List ℕ)
  pub first : words_left r ≡ dashes ∷ more
  pub not_ended : r.ended ≡ false

-- `--` is skipped where it is the next word and ends the options
abbrev pub SkipsDashes : Reading → Reading → Type 0
SkipsDashes before after = (StartsWithDashes before × (after ≡ after_dashes before)) ⊎ (¬ (StartsWithDashes before) × (after ≡ before))

-- how a word is read; after `--` it is a value
abbrev pub IsReadIn : Bool → Bool → List ℕ → Kind → List ℕ → Type 0
IsReadIn true numbers s kind rest = (kind ≡ Value s) × (rest ≡ [])
IsReadIn false numbers s kind rest = IsReadAs numbers s kind rest

-- one of the flags that are left is taken
pub record TakesFlag (before : Reading) (kind : Kind) (after : Reading) : Type 0 where
  pub some : before.pending ≢ []
  pub no_equals : ¬ (IsPrefix equals before.pending)
  pub flag : IsFlag before.pending kind after.pending
  pub same : after ≡ having_read before before.index kind after.pending

-- the next word is read, after `--` where that comes first
pub record TakesNext (before : Reading) (kind : Kind) (after : Reading) : Type 0 where
  pub none_pending : before.pending ≡ []
  pub between : Reading
  pub skips : SkipsDashes before between
  pub word : List ℕ
  pub more : List (List ℕ)
  pub next : words_left between ≡ word ∷ more
  pub read : IsReadIn between.ended between.numbers word kind after.pending
  pub same : after ≡ having_read between (between.index + 1) kind after.pending

-- the next word is taken as it is
pub record TakesWhole (before : Reading) (word : List ℕ) (after : Reading) : Type 0 where
  pub more : List (List ℕ)
  pub next : words_left before ≡ word ∷ more
  pub same : after ≡ without_word before

-- no word is left
pub record TakesNone (before after : Reading) : Type 0 where
  pub none_pending : before.pending ≡ []
  pub skips : SkipsDashes before after
  pub none_left : words_left after ≡ []

-- a value is left that wasn't taken; it is dropped
pub record DropsValue (before : Reading) (fault : Fault) (after : Reading) : Type 0 where
  pub value : List ℕ
  pub pending : before.pending ≡ equals ++ value
  pub is_fault : fault ≡ UnexpectedValue before.last value
  pub same : after ≡ without_pending before

-- a step of `next`
abbrev pub TakesWord : Reading → Result (Option Kind) Fault → Reading → Type 0
TakesWord before (Ok (Some kind)) after = TakesFlag before kind after ⊎ TakesNext before kind after
TakesWord before (Ok None) after = TakesNone before after
TakesWord before (Err fault) after = DropsValue before fault after

-- the value is taken from what is left of the option's word
pub record TakesPending (before : Reading) (value : List ℕ) (after : Reading) : Type 0 where
  pub some : before.pending ≢ []
  pub is_value : IsValueOf before.pending value
  pub same : after ≡ without_pending before

-- nothing is left of the last word, nor of the words
pub record LacksValue (before : Reading) (fault : Fault) (after : Reading) : Type 0 where
  pub none_pending : before.pending ≡ []
  pub none_left : words_left before ≡ []
  pub is_fault : fault ≡ MissingValue before.last
  pub same : after ≡ before

-- a step of `value`: it takes what is left of the option's word, else the next word as it is
abbrev pub TakesValue : Reading → Result (List ℕ) Fault → Reading → Type 0
TakesValue before (Ok value) after = TakesPending before value after ⊎ ((before.pending ≡ []) × TakesWhole before value after)
TakesValue before (Err fault) after = LacksValue before fault after

-- a step of `optional_value`
abbrev pub TakesOptionalValue : Reading → Option (List ℕ) → Reading → Type 0
TakesOptionalValue before (Some value) after = TakesPending before value after
TakesOptionalValue before None after = (before.pending ≡ []) × (after ≡ before)

-- what is left of a word is dropped, since it wasn't taken as a value
pub record DropsPending (before : Reading) (fault : Fault) (after : Reading) : Type 0 where
  pub some : before.pending ≢ []
  pub value : List ℕ
  pub is_value : IsValueOf before.pending value
  pub is_fault : fault ≡ UnexpectedValue before.last value
  pub same : after ≡ without_pending before

-- a step of `rest`
abbrev pub TakesRest : Reading → Result (List (List ℕ)) Fault → Reading → Type 0
TakesRest before (Ok words) after = (before.pending ≡ []) × ((words ≡ words_left before) × (after ≡ without_words before))
TakesRest before (Err fault) after = DropsPending before fault after
