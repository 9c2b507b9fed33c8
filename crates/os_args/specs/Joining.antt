-- The words of a command line, joined again from the parts that were taken.
use Rattle.std.specs.Prelude.{◌≡◌, ℕ, ◌+◌, List, [], ◌∷◌, ◌++◌, length, Option, Some, None, Result, Ok, Err}
use Rattle.std.specs.Char.{encode_utf8}
use Rattle.std.specs.List.{flat_map}
use Rattle.os_args.specs.Word.{Kind, Long, LongBytes, Short, ShortBytes, Value, dash, dashes, equals}
use Rattle.os_args.specs.Reading.{Fault, UnexpectedValue, MissingValue, UnexpectedArgument, Reading, words_left, TakesWord, TakesValue, TakesOptionalValue, TakesRest}

-- what comes before a text in its word: nothing, `-`, `--` or `=`
pub data Mark : Type 0 where
  Unmarked : Mark
  Dash : Mark
  Dashes : Mark
  Equals : Mark

abbrev pub mark_bytes : Mark → List ℕ
mark_bytes Unmarked = []
mark_bytes Dash = dash
mark_bytes Dashes = dashes
mark_bytes Equals = equals

-- what is taken of the words: a mark and a text, to which more of the word follows or with which it ends, or the word `--`
pub data Piece : Type 0 where
  Inner : Mark → List ℕ → Piece
  Last : Mark → List ℕ → Piece
  Separator : Piece

-- the bytes, with what follows them in their word, which is the first of these
abbrev pub joined_to : List ℕ → List (List ℕ) → List (List ℕ)
joined_to s [] = s ∷ []
joined_to s (word ∷ words) = (s ++ word) ∷ words

-- a piece and the words after it
abbrev pub before_words : Piece → List (List ℕ) → List (List ℕ)
before_words (Inner mark text) words = joined_to (mark_bytes mark ++ text) words
before_words (Last mark text) words = (mark_bytes mark ++ text) ∷ words
before_words Separator words = dashes ∷ words

-- pieces and the words after them
abbrev pub pieces_joined : List Piece → List (List ℕ) → List (List ℕ)
pieces_joined [] words = words
pieces_joined (piece ∷ pieces) words = before_words piece (pieces_joined pieces words)

-- the texts of pieces, without marks
abbrev pub piece_texts : List Piece → List (List ℕ)
piece_texts [] = []
piece_texts (Inner mark text ∷ pieces) = text ∷ piece_texts pieces
piece_texts (Last mark text ∷ pieces) = text ∷ piece_texts pieces
piece_texts (Separator ∷ pieces) = piece_texts pieces

-- what is left of a word, where anything is, and the words after it
abbrev pub with_pending : List ℕ → List (List ℕ) → List (List ℕ)
with_pending [] words = words
with_pending (b ∷ s) words = (b ∷ s) ∷ words

-- all that is left: of the last word that was taken, and the words after it
abbrev pub all_left : Reading → List (List ℕ)
all_left r = with_pending r.pending (words_left r)

-- how many words there are, and how many bytes in them
abbrev pub weight : List (List ℕ) → ℕ
weight [] = 0
weight (word ∷ words) = 1 + (length word + weight words)

-- a step, and what it gave
pub data Step : Type 0 where
  Next : Result (Option Kind) Fault → Step
  TookValue : Result (List ℕ) Fault → Step
  TookOptionalValue : Option (List ℕ) → Step
  TookRest : Result (List (List ℕ)) Fault → Step

-- the step leads from one reading to the other
abbrev pub IsStep : Reading → Step → Reading → Type 0
IsStep before (Next outcome) after = TakesWord before outcome after
IsStep before (TookValue outcome) after = TakesValue before outcome after
IsStep before (TookOptionalValue outcome) after = TakesOptionalValue before outcome after
IsStep before (TookRest outcome) after = TakesRest before outcome after

-- these steps, one after the other, lead from one reading to the other
abbrev pub AreSteps : Reading → List Step → Reading → Type 0
AreSteps before [] after = after ≡ before
AreSteps before (step ∷ steps) after = (between : Reading) × (IsStep before step between × AreSteps between steps after)

-- the text of what was read
abbrev pub kind_text : Kind → List ℕ
kind_text (Long name) = name
kind_text (LongBytes name) = name
kind_text (Short c) = encode_utf8 c
kind_text (ShortBytes rest) = rest
kind_text (Value value) = value

-- the value that an error reports
abbrev pub fault_texts : Fault → List (List ℕ)
fault_texts (UnexpectedValue last value) = value ∷ []
fault_texts (MissingValue last) = []
fault_texts (UnexpectedArgument kind) = []

-- the texts that a step returns
abbrev pub step_texts : Step → List (List ℕ)
step_texts (Next (Ok (Some kind))) = kind_text kind ∷ []
step_texts (Next (Ok None)) = []
step_texts (Next (Err fault)) = fault_texts fault
step_texts (TookValue (Ok value)) = value ∷ []
step_texts (TookValue (Err fault)) = fault_texts fault
step_texts (TookOptionalValue (Some value)) = value ∷ []
step_texts (TookOptionalValue None) = []
step_texts (TookRest (Ok words)) = words
step_texts (TookRest (Err fault)) = fault_texts fault

-- the texts that the steps returned, in order and with their marks, joined with what is left, are what was there
pub record IsJoinedAgain (before : Reading) (steps : List Step) (after : Reading) : Type 0 where
  pub pieces : List Piece
  pub joined : pieces_joined pieces (all_left after) ≡ all_left before
  pub texts : piece_texts pieces ≡ flat_map step_texts steps
