-- Words of a shell: what is written for a name, and the names of a line of them.
use Rattle.std.specs.Prelude.{◌≡◌, ◌⊎◌, ℕ, ◌<◌, ◌≤◌, true, List, [], ◌∷◌, ◌++◌, length, Result, Ok, Err}
use Rattle.os_command_line.specs.Shell.{IsRead, language}
use Rattle.os_command_line.specs.ShellWriting.{IsLineWord, quoted_word}
use Rattle.os_command_line.specs.declared.shell.fault.WordsFault.{WordsFault}
use Rattle.list_programs.specs.ListOptions.{byte_of}
use Rattle.list_programs.specs.declared.options.ListOptions.{ListOptions}
use Rattle.list_programs.specs.declared.fault.ItemFault.{ItemFault}
use Rattle.list_programs.specs.declared.fault.ItemFault.TheVariants as item_fault
use Rattle.names_commands.specs.declared.fault.Rejection.{Rejection}
use Rattle.names_commands.specs.declared.fault.Rejection.TheVariants.{NoString, BadEscape, NotCanonical, HasNul, HasNewline, EndsInReturn as InReturn, EmptyLine, BadWords, BadArchive, NotFromTop}
use Rattle.names_commands.specs.Names.{EndsInReturn, IsFit, IsUnfit}
use Rattle.names_commands.specs.declared.task.WordForm.{WordForm}
use Rattle.names_commands.specs.declared.task.WordForm.TheVariants.{Posix, OneLine}

-- the text is the word of the name
abbrev pub IsWord : WordForm → List ℕ → List ℕ → Type 0
IsWord Posix name text = text ≡ quoted_word name
IsWord OneLine name text = IsLineWord name text

-- the text is the word of the name, and a newline
abbrev pub IsWordLine : WordForm → List ℕ → List ℕ → Type 0
IsWordLine form name text = (word : List ℕ) × IsWord form name word × (text ≡ word ++ 0x0A ∷ [])

-- a word that is a name: it can be written with its end, and has at most `max` bytes
pub record IsName (list : ListOptions) (word : List ℕ) : Type 0 where
  pub fit : IsFit list.end word
  pub short : length word ≤ list.max

-- how the list is written:
module _ (list : ListOptions) where
  -- all these words of a line are names, and the text is each of them with its end
  abbrev pub AreNames : List (Result (List ℕ) WordsFault) → List ℕ → Type 0
  AreNames [] text = text ≡ []
  AreNames (Ok word ∷ items) text = IsName list word × ((more : List ℕ) × AreNames items more × (text ≡ (word ++ byte_of list.end ∷ []) ++ more))
  AreNames (Err fault ∷ items) text = ⊥

  -- after words of a line that are names this comes
  abbrev pub Comes : List (Result (List ℕ) WordsFault) → Result (List ℕ) WordsFault → Type 0
  Comes [] item = ⊥
  Comes (Ok word ∷ items) item = (Ok word ≡ item) ⊎ (IsName list word × Comes items item)
  Comes (Err fault ∷ items) item = Err fault ≡ item

  -- the line, which doesn't end in a carriage return, as a shell reads it, where what some shell expands is rejected and `$'..'` is read: all its words are names, and the text is each name with its end
  abbrev pub AreNamesOf : List ℕ → List ℕ → Type 0
  AreNamesOf line text = (¬ (EndsInReturn line)) × ((items : List (Result (List ℕ) WordsFault)) × IsRead (language true true) line items × AreNames items text)

  -- of such a line this comes after words that are names
  abbrev pub IsAfterNames : List ℕ → Result (List ℕ) WordsFault → Type 0
  IsAfterNames line item = (¬ (EndsInReturn line)) × ((items : List (Result (List ℕ) WordsFault)) × IsRead (language true true) line items × Comes items item)

  -- a word can't be written, for this reason
  abbrev pub HasUnfitWord : List ℕ → Rejection → Type 0
  HasUnfitWord line why = (word : List ℕ) × IsAfterNames line (Ok word) × IsUnfit list.end word why

  -- why a line isn't words that are names: it ends in a carriage return, a word can't be written, or the words have a fault
  abbrev pub IsWordsRejection : List ℕ → Rejection → Type 0
  IsWordsRejection line (NoString error) = ⊥
  IsWordsRejection line (BadEscape index) = ⊥
  IsWordsRejection line NotCanonical = ⊥
  IsWordsRejection line HasNul = HasUnfitWord line HasNul
  IsWordsRejection line HasNewline = HasUnfitWord line HasNewline
  IsWordsRejection line InReturn = EndsInReturn line
  IsWordsRejection line EmptyLine = ⊥
  IsWordsRejection line (BadWords fault) = IsAfterNames line (Err fault)
  IsWordsRejection line (BadArchive fault) = ⊥
  IsWordsRejection line NotFromTop = ⊥

  -- why nothing is written for a line of words; an allocation may fail
  abbrev pub IsLineFault : List ℕ → ItemFault Rejection → Type 0
  IsLineFault line (item_fault.Rejected why) = IsWordsRejection line why
  IsLineFault line item_fault.TooLong = (word : List ℕ) × IsAfterNames line (Ok word) × (list.max < length word)
  IsLineFault line item_fault.Memory = Unit {0}

  -- why a word of a line isn't a name
  abbrev pub IsWordFault : List ℕ → ItemFault Rejection → Type 0
  IsWordFault word (item_fault.Rejected why) = IsUnfit list.end word why
  IsWordFault word item_fault.TooLong = list.max < length word
  IsWordFault word item_fault.Memory = Unit {0}
