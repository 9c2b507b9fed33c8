-- What each command writes for its input, and with which fault it rejects it.
use Rattle.std.specs.Prelude.{◌≡◌, ◌≢◌, ◌⊎◌, ℕ, ◌<◌, List, length, map, Option, Result, Err}
use Rattle.std.specs.Str.{IsUtf8}
use Rattle.os_str_bytes.specs.Chunks.{Chunk, AreChunks}
use Rattle.os_str_bytes.specs.Pieces.{IsSplit}
use Rattle.os_str_bytes.specs.Occurrence.{Finds, IsFirstIndex}
use Rattle.os_str_bytes.specs.UnitIndex.{FindsInUnits}
use Rattle.os_str_bytes.specs.EncodingError.{EncodingError}
use Rattle.os_str_bytes.specs.Platform.{Ghosts}
use Rattle.os_str_bytes.specs.WasmLaws.{IsTextFault}
use Rattle.os_quote.specs.Escape.{IsEscape, IsQuoteFault}
use Rattle.os_quote.specs.declared.error.QuoteError.{QuoteError}
use Rattle.os_quote.specs.declared.error.QuoteError.TheVariants as quote
use Rattle.osbytes_commands.specs.declared.command.Command.{Command}
use Rattle.osbytes_commands.specs.declared.command.Command.TheVariants.{Units, Raw, Find, Split, Chunks, Quote, Unquote}
use Rattle.osbytes_commands.specs.declared.fault.Fault.{Fault}
use Rattle.osbytes_commands.specs.declared.fault.Fault.TheVariants.{Refused, BadLine, BadQuote, Usage, Memory, Read, Write}
use Rattle.osbytes_commands.specs.Command.{os_of}
use Rattle.osbytes_commands.specs.Lines.{unit_lines, index_line, piece_lines, chunk_lines, AreUnitLines, IsFirstBadLine}
use Rattle.program_frame.specs.Strings.{strings}

-- the first line that the command can't read: for `raw` the first that isn't a unit's
abbrev pub HasBadLine : Command → List ℕ → ℕ → Type 0
HasBadLine (Units os) input number = ⊥
HasBadLine (Raw os) input number = IsFirstBadLine os input number
HasBadLine (Find os pattern) input number = ⊥
HasBadLine (Split os pattern) input number = ⊥
HasBadLine (Chunks os) input number = ⊥
HasBadLine (Quote os) input number = ⊥
HasBadLine (Unquote os) input number = ⊥

-- on a platform with these properties of its strings:
module _ {E : Type 0} (p : Ghosts E) where
  -- the first index of the pattern in the input, None where it doesn't occur: in their bytes, and in their units
  abbrev pub FindsFirst : List ℕ → List ℕ → Option ℕ → Type 0
  FindsFirst pattern input index = Finds IsFirstIndex pattern input index × FindsInUnits IsFirstIndex p.well_formed p.units pattern input index

  -- the pieces of the input between the matches of the pattern: of their bytes, and of their units
  abbrev pub AreSplit : List ℕ → List ℕ → List (List ℕ) → Type 0
  AreSplit pattern input pieces = IsSplit pattern input pieces × IsSplit (p.units pattern) (p.units input) (map p.units pieces)

  -- `units`: the lines of the string's units; `raw`: the bytes of the string whose units are on the lines; `find`: the line of the first index of the pattern in the string; `split`: the lines of the string's pieces between the matches of the pattern; `chunks`: the lines of the string's chunks; `quote`: the string's escape; `unquote`: the bytes of the string with this escape
  abbrev pub IsOutputOn : Command → List ℕ → List ℕ → Type 0
  IsOutputOn (Units os) input output = p.well_formed input × (output ≡ unit_lines os (p.units input))
  IsOutputOn (Raw os) input output = p.well_formed output × AreUnitLines os input (p.units output)
  IsOutputOn (Find os pattern) input output = p.well_formed input × ((index : Option ℕ) × FindsFirst pattern.now input index × (output ≡ index_line index))
  IsOutputOn (Split os pattern) input output = p.well_formed input × ((pieces : List (List ℕ)) × AreSplit pattern.now input pieces × (output ≡ piece_lines pieces))
  IsOutputOn (Chunks os) input output = p.well_formed input × ((chunks : List Chunk) × AreChunks input chunks × (output ≡ chunk_lines chunks))
  IsOutputOn (Quote os) input output = p.well_formed input × IsEscape p.units input output
  IsOutputOn (Unquote os) input output = p.well_formed output × IsEscape p.units output input

  -- the fault of an invalid input. For `units`, `find`, `chunks`, `quote`, and `split` of a pattern that isn't empty, it is the first fault of bytes that aren't a string. For `raw` it is the first fault of the bytes that the units on the lines would encode, if they aren't the units of a string. For `unquote` it is the first fault of invalid UTF-8.
  abbrev pub HasFaultOn : Command → List ℕ → EncodingError → Type 0
  HasFaultOn (Units os) input error = p.first_fault input error
  HasFaultOn (Find os pattern) input error = p.first_fault input error
  HasFaultOn (Split os pattern) input error = (0 < length pattern.now) × p.first_fault input error
  HasFaultOn (Chunks os) input error = p.first_fault input error
  HasFaultOn (Quote os) input error = p.first_fault input error
  HasFaultOn (Unquote os) input error = IsTextFault input error
  HasFaultOn (Raw os) input error = (us : List ℕ) × AreUnitLines os input us × (¬ (p.is_unit_list us)) × p.first_fault us error

  -- `unquote`: why a text isn't the escape of a string
  abbrev pub HasBadQuoteOn : Command → List ℕ → QuoteError → Type 0
  HasBadQuoteOn (Units os) input error = ⊥
  HasBadQuoteOn (Raw os) input error = ⊥
  HasBadQuoteOn (Find os pattern) input error = ⊥
  HasBadQuoteOn (Split os pattern) input error = ⊥
  HasBadQuoteOn (Chunks os) input error = ⊥
  HasBadQuoteOn (Quote os) input error = ⊥
  HasBadQuoteOn (Unquote os) input error = IsUtf8 input × (error ≢ quote.Memory) × IsQuoteFault p.well_formed p.units input error

  -- what the command rejects the input with
  abbrev pub IsRejectionOn : Command → List ℕ → Fault → Type 0
  IsRejectionOn command input (Refused error) = HasFaultOn command input error
  IsRejectionOn command input (BadLine number) = HasBadLine command input number
  IsRejectionOn command input (BadQuote error) = HasBadQuoteOn command input error
  IsRejectionOn command input Usage = ⊥
  IsRejectionOn command input Memory = ⊥
  IsRejectionOn command input Read = ⊥
  IsRejectionOn command input Write = ⊥

  -- the faults that the command may end with: that of an invalid input, and out of memory
  abbrev pub IsFaultOn : Command → List ℕ → Fault → Type 0
  IsFaultOn command input fault = (fault ≡ Memory) ⊎ IsRejectionOn command input fault

  -- r is the first fault of bytes that aren't a string; it is found before any memory is allocated
  abbrev pub RejectsNoString : {T : Type 0} → List ℕ → Result T Fault → Type 0
  RejectsNoString input r = (error : EncodingError) → p.first_fault input error → r ≡ Err (Refused error)

-- the command's output for the input, on its platform
abbrev pub IsOutput : Command → List ℕ → List ℕ → Type 0
IsOutput command = IsOutputOn (strings (os_of command)) command

-- what the command rejects the input with, on its platform
abbrev pub IsRejection : Command → List ℕ → Fault → Type 0
IsRejection command = IsRejectionOn (strings (os_of command)) command

-- the faults that the command may end with, on its platform
abbrev pub IsFault : Command → List ℕ → Fault → Type 0
IsFault command = IsFaultOn (strings (os_of command)) command

-- the faults that state what is wrong with the input
abbrev pub IsOfInput : Fault → Type 0
IsOfInput (Refused error) = Unit {0}
IsOfInput (BadLine number) = Unit {0}
IsOfInput (BadQuote error) = Unit {0}
IsOfInput Usage = ⊥
IsOfInput Memory = ⊥
IsOfInput Read = ⊥
IsOfInput Write = ⊥
