-- The text of each reason why an item or the words are rejected.
use Rattle.std.specs.Prelude.{◌≡◌, ℕ, Bool, true, false, List, [], ◌++◌, Option, None, Some, codes, decimal}
use Rattle.glob_patterns.specs.ErrorText as glob
use Rattle.std.specs.Fmt.Cut.{cut_to}
use Rattle.std.specs.Fmt.InlineText.{inline_text}
use Rattle.list_programs.specs.Misuse.{misuse_text}
use Rattle.list_programs.specs.declared.misuse.Misuse as misuse
use Rattle.glob_patterns.specs.declared.error.GlobError.TheVariants as glob_error
use Rattle.glob_patterns.specs.declared.set_error.GlobSetError.TheVariants as set_error
use Rattle.os_command_line.specs.ErrorText as words
use Rattle.os_quote.specs.ErrorText.{error_text}
use Rattle.os_quote.specs.declared.error.QuoteError.TheVariants as quote
use Rattle.os_str_bytes.specs.FaultText.{fault_text}
use Rattle.tar_names.specs.FaultText as tar
use Rattle.names_commands.specs.declared.fault.Rejection.{Rejection}
use Rattle.names_commands.specs.declared.fault.Rejection.TheVariants.{NoString, BadEscape, NotCanonical, HasNul, HasNewline, EndsInReturn, EmptyLine, BadWords, BadArchive, NotFromTop}
use Rattle.names_commands.specs.declared.fault.CommandFault.{CommandFault}
use Rattle.names_commands.specs.declared.fault.CommandFault.TheVariants.{Unreadable, Misuse, Pattern, NoFile, Unread, NoPatternFile, UnreadPatternFile, LinePattern, LineNoString, NoOutput}

-- what the program prints of the reason why an item is rejected
abbrev pub rejection_text : Rejection → List ℕ
rejection_text (NoString error) = fault_text error
rejection_text (BadEscape index) = error_text (quote.BadEscape index)
rejection_text NotCanonical = error_text quote.NotCanonical
rejection_text HasNul = codes "the name has a NUL"
rejection_text HasNewline = codes "the name has a newline"
rejection_text EndsInReturn = codes "the line ends in a carriage return"
rejection_text EmptyLine = codes "the line is empty; --empty reads it as an empty name"
rejection_text (BadWords fault) = words.fault_text fault
rejection_text (BadArchive fault) = tar.fault_text fault
rejection_text NotFromTop = codes "the name isn't a path from the top, as --ignore needs it; use find . or git ls-files -z there"

-- which line of which pattern file has a fault
abbrev pub line_text : ℕ → ℕ → List ℕ
line_text file line = codes "pattern file " ++ (decimal file ++ (codes ", line " ++ (decimal line ++ codes ": ")))

-- what the program prints of the reason why its arguments are rejected
abbrev pub words_text : CommandFault → List ℕ
words_text Unreadable = codes "an argument isn't valid UTF-8"
words_text (Misuse text) = inline_text text ++ codes "; names --help lists the commands"
words_text (Pattern number why lines) = glob.set_error_text (set_error.Pattern number why) ++ inline_text lines
words_text (NoFile number) = codes "ignore file " ++ (decimal number ++ codes ": no such file")
words_text (Unread number) = codes "ignore file " ++ (decimal number ++ codes ": read failed")
words_text (NoPatternFile number) = codes "pattern file " ++ (decimal number ++ codes ": no such file")
words_text (UnreadPatternFile number) = codes "pattern file " ++ (decimal number ++ codes ": read failed")
words_text (LinePattern file line why lines) = line_text file line ++ (glob.error_text (glob_error.Pattern why) ++ inline_text lines)
words_text (LineNoString file line error) = line_text file line ++ fault_text error
words_text NoOutput = []

-- the status that the program ends with then
abbrev pub words_status : CommandFault → ℕ
words_status Unreadable = 2
words_status (Misuse text) = 2
words_status (Pattern number why lines) = 2
words_status (NoFile number) = 4
words_status (Unread number) = 4
words_status (NoPatternFile number) = 4
words_status (UnreadPatternFile number) = 4
words_status (LinePattern file line why lines) = 2
words_status (LineNoString file line error) = 2
words_status NoOutput = 1

-- the fault has the text of the misuse, which is cut if it is longer than 400 bytes
abbrev pub IsOfMisuse : misuse.Misuse → CommandFault → Type 0
IsOfMisuse why Unreadable = ⊥
IsOfMisuse why (Misuse text) = inline_text text ≡ cut_to 400 (misuse_text why)
IsOfMisuse why (Pattern number fault lines) = ⊥
IsOfMisuse why (NoFile number) = ⊥
IsOfMisuse why (Unread number) = ⊥
IsOfMisuse why (NoPatternFile number) = ⊥
IsOfMisuse why (UnreadPatternFile number) = ⊥
IsOfMisuse why (LinePattern file line fault lines) = ⊥
IsOfMisuse why (LineNoString file line error) = ⊥
IsOfMisuse why NoOutput = ⊥

-- what a run ends with that writes nothing, if that is a fault
abbrev pub none_for : Bool → Option CommandFault
none_for true = Some NoOutput
none_for false = None
