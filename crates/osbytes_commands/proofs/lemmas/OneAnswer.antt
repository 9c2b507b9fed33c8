-- A command has an output for its input or rejects it, never both, and rejects it with one fault.
use Rattle.std.proofs.Common.{◌≡◌, ◌⊎◌, ℕ, List, Option, None, Some, Result, Err, refl, ap, subst, ◌∙◌, inl, inr}
use Rattle.std.proofs.KnownBytes.{Consumes-whole}
use Rattle.std.specs.Prelude.{IfSome}
use Rattle.std.specs.Str.{IsUtf8}
use Rattle.std.specs.Io.KnownBytes.{Consumes, IsAtEnd}
use Rattle.os_str_bytes.specs.EncodingError.{EncodingError}
use Rattle.os_str_bytes.specs.Laws.{PlatformLaws, PartLaws}
use Rattle.os_str_bytes.specs.PartUnits.{AreLoneSurrogates}
use Rattle.os_str_bytes.specs.UnixLaws.{AreAboveAscii, unix_laws, unix_parts}
use Rattle.os_str_bytes.specs.WasmLaws.{AreNone, IsTextFault, wasm_laws, wasm_parts}
use Rattle.os_str_bytes.specs.WindowsLaws.{windows_laws, windows_parts}
use Rattle.os_quote.specs.Escape.{IsEscape, IsQuoteFault}
use Rattle.os_quote.specs.Shown.{is_any}
use Rattle.os_quote.specs.declared.form.Form.TheVariants.{Text}
use Rattle.os_quote.specs.declared.error.QuoteError.{QuoteError}
use Rattle.os_quote.specs.declared.error.QuoteError.TheVariants as quote
use Rattle.os_quote.proofs.lemmas.EachChunk.{are_chunks_of}
use Rattle.os_quote.proofs.lemmas.Escapes.{never_bad, one_bad_index}
use Rattle.os_quote.proofs.lemmas.Readings.{escape_is_text}
use Rattle.program_frame.specs.declared.os.Os.{Os}
use Rattle.program_frame.specs.declared.os.Os.TheVariants.{Unix, Windows, Wasm}
use Rattle.osbytes_commands.specs.declared.command.Command.{Command}
use Rattle.osbytes_commands.specs.declared.command.Command.TheVariants.{Units, Raw, Find, Split, Chunks, Quote, Unquote}
use Rattle.osbytes_commands.specs.declared.fault.Fault.{Fault}
use Rattle.osbytes_commands.specs.declared.fault.Fault.TheVariants.{Refused, BadLine, BadQuote, Usage, Memory, Read, Write}
use Rattle.osbytes_commands.specs.Command.{os_of}
use Rattle.program_frame.specs.Strings.{strings}
use Rattle.osbytes_commands.specs.Output.{IsOutput, IsRejection, HasFaultOn, HasBadLine, HasBadQuoteOn}
use Rattle.osbytes_commands.specs.Run.{AnswersRejection}
use Rattle.osbytes_commands.proofs.lemmas.UnitLines.{one_list_of_lines, one_bad_line, no_bad_line}

-- the laws of the platform
laws : (os : Os) → PlatformLaws (strings os).first_fault (strings os).well_formed (strings os).units (strings os).is_unit_list (strings os).io_safe (strings os).lossy (strings os).replaces
laws Unix = unix_laws
laws Windows = windows_laws
laws Wasm = wasm_laws

-- the law of parts of the platform, where its parts have some kind of units
parts : (os : Os) → (part_units : List ℕ → Type 0) × PartLaws (strings os).well_formed (strings os).units part_units
parts Unix = (AreAboveAscii, unix_parts)
parts Windows = (AreLoneSurrogates, windows_parts)
parts Wasm = (AreNone, wasm_parts)

-- no fault of UTF-8 is that of a text
no_text_fault : (input : List ℕ) (error : EncodingError) → IsUtf8 input → IsTextFault input error → ⊥
no_text_fault input error u k = wasm_laws.faulty input error k u

-- the first fault of the command's input, on its platform
abbrev HasFault : Command → List ℕ → EncodingError → Type 0
HasFault command = HasFaultOn (strings (os_of command)) command

output_or_fault : (command : Command) (input output : List ℕ) (error : EncodingError) → IsOutput command input output → HasFault command input error → ⊥
output_or_fault (Units os) input output error h k = (laws os).faulty input error k h.0
output_or_fault (Find os pattern) input output error h k = (laws os).faulty input error k h.0
output_or_fault (Split os pattern) input output error h k = (laws os).faulty input error k.1 h.0
output_or_fault (Chunks os) input output error h k = (laws os).faulty input error k h.0
output_or_fault (Quote os) input output error h k = (laws os).faulty input error k h.0
output_or_fault (Unquote os) input output error h k = no_text_fault input error (escape_is_text Text (strings os).well_formed (strings os).units (parts os).0 (parts os).1 (are_chunks_of (strings os).well_formed (laws os).cut_prefix (laws os).cut_suffix) output input h.0 h.1) k
output_or_fault (Raw os) input output error h k =
    k.2 (subst (strings os).is_unit_list (one_list_of_lines os input ((strings os).units output) k.0 h.1 k.1) ((laws os).unit_list output h.0))

output_or_bad_line : (command : Command) (input output : List ℕ) (number : ℕ) → IsOutput command input output → HasBadLine command input number → ⊥
output_or_bad_line (Units os) input output number h k = k
output_or_bad_line (Find os pattern) input output number h k = k
output_or_bad_line (Split os pattern) input output number h k = k
output_or_bad_line (Chunks os) input output number h k = k
output_or_bad_line (Quote os) input output number h k = k
output_or_bad_line (Unquote os) input output number h k = k
output_or_bad_line (Raw os) input output number h k = no_bad_line os input ((strings os).units output) number h.1 k

-- why the command's input is the escape of no string
abbrev HasBadQuote : Command → List ℕ → QuoteError → Type 0
HasBadQuote command = HasBadQuoteOn (strings (os_of command)) command

not_escaped : (os : Os) (input output : List ℕ) (error : QuoteError) → (strings os).well_formed output → IsEscape (strings os).units output input → ¬ (error ≡ quote.Memory) → IsQuoteFault (strings os).well_formed (strings os).units input error → ⊥
not_escaped os input output (quote.BadEscape index) w e n k = never_bad Text (strings os).well_formed (strings os).units (parts os).0 (parts os).1 (are_chunks_of (strings os).well_formed (laws os).cut_prefix (laws os).cut_suffix) output input index w e k
not_escaped os input output quote.NotCanonical w e n k = k.0 output w e
not_escaped os input output quote.Memory w e n k = n refl

output_or_bad_quote : (command : Command) (input output : List ℕ) (error : QuoteError) → IsOutput command input output → HasBadQuote command input error → ⊥
output_or_bad_quote (Units os) input output error h k = k
output_or_bad_quote (Raw os) input output error h k = k
output_or_bad_quote (Find os pattern) input output error h k = k
output_or_bad_quote (Split os pattern) input output error h k = k
output_or_bad_quote (Chunks os) input output error h k = k
output_or_bad_quote (Quote os) input output error h k = k
output_or_bad_quote (Unquote os) input output error h k = not_escaped os input output error h.0 h.1 k.1 k.2

pub output_or_rejection : (command : Command) (input output : List ℕ) (fault : Fault) → IsOutput command input output → IsRejection command input fault → ⊥
output_or_rejection command input output (Refused error) h k = output_or_fault command input output error h k
output_or_rejection command input output (BadLine number) h k = output_or_bad_line command input output number h k
output_or_rejection command input output (BadQuote error) h k = output_or_bad_quote command input output error h k
output_or_rejection command input output Usage h k = k
output_or_rejection command input output Memory h k = k
output_or_rejection command input output Read h k = k
output_or_rejection command input output Write h k = k

one_fault : (command : Command) (input : List ℕ) (d e : EncodingError) → HasFault command input d → HasFault command input e → d ≡ e
one_fault (Units os) input d e h k = (laws os).one_fault input d e h k
one_fault (Find os pattern) input d e h k = (laws os).one_fault input d e h k
one_fault (Split os pattern) input d e h k = (laws os).one_fault input d e h.1 k.1
one_fault (Chunks os) input d e h k = (laws os).one_fault input d e h k
one_fault (Quote os) input d e h k = (laws os).one_fault input d e h k
one_fault (Unquote os) input d e h k = wasm_laws.one_fault input d e h k
one_fault (Raw os) input d e h k =
    (laws os).one_fault h.0 d e h.3 (subst (λ us. (strings os).first_fault us e) (one_list_of_lines os input k.0 h.0 k.1 h.1) k.3)

one_bad : (command : Command) (input : List ℕ) (m n : ℕ) → HasBadLine command input m → HasBadLine command input n → m ≡ n
one_bad (Units os) input m n h k = absurd h
one_bad (Find os pattern) input m n h k = absurd h
one_bad (Split os pattern) input m n h k = absurd h
one_bad (Chunks os) input m n h k = absurd h
one_bad (Quote os) input m n h k = absurd h
one_bad (Unquote os) input m n h k = absurd h
one_bad (Raw os) input m n h k = one_bad_line os input m n h k

fault_or_bad_line : (command : Command) (input : List ℕ) (error : EncodingError) (number : ℕ) → HasFault command input error → HasBadLine command input number → ⊥
fault_or_bad_line (Units os) input error number h k = k
fault_or_bad_line (Find os pattern) input error number h k = k
fault_or_bad_line (Split os pattern) input error number h k = k
fault_or_bad_line (Chunks os) input error number h k = k
fault_or_bad_line (Quote os) input error number h k = k
fault_or_bad_line (Unquote os) input error number h k = k
fault_or_bad_line (Raw os) input error number h k = no_bad_line os input h.0 number h.1 k

one_quote_fault : (well_formed : List ℕ → Type 0) (units : List ℕ → List ℕ) (input : List ℕ) (d e : QuoteError) → ¬ (d ≡ quote.Memory) → ¬ (e ≡ quote.Memory) → IsQuoteFault well_formed units input d → IsQuoteFault well_formed units input e → d ≡ e
one_quote_fault well_formed units input (quote.BadEscape m) (quote.BadEscape n) x y h k = ap quote.BadEscape (one_bad_index is_any input m n h k)
one_quote_fault well_formed units input (quote.BadEscape m) quote.NotCanonical x y h k = absurd (k.1 m h)
one_quote_fault well_formed units input quote.NotCanonical (quote.BadEscape n) x y h k = absurd (h.1 n k)
one_quote_fault well_formed units input quote.NotCanonical quote.NotCanonical x y h k = refl
one_quote_fault well_formed units input quote.Memory e x y h k = absurd (x refl)
one_quote_fault well_formed units input d quote.Memory x y h k = absurd (y refl)

one_bad_quote : (command : Command) (input : List ℕ) (d e : QuoteError) → HasBadQuote command input d → HasBadQuote command input e → d ≡ e
one_bad_quote (Units os) input d e h k = absurd h
one_bad_quote (Raw os) input d e h k = absurd h
one_bad_quote (Find os pattern) input d e h k = absurd h
one_bad_quote (Split os pattern) input d e h k = absurd h
one_bad_quote (Chunks os) input d e h k = absurd h
one_bad_quote (Quote os) input d e h k = absurd h
one_bad_quote (Unquote os) input d e h k = one_quote_fault (strings os).well_formed (strings os).units input d e h.1 k.1 h.2 k.2

fault_or_bad_quote : (command : Command) (input : List ℕ) (error : EncodingError) (bad : QuoteError) → HasFault command input error → HasBadQuote command input bad → ⊥
fault_or_bad_quote (Units os) input error bad h k = k
fault_or_bad_quote (Raw os) input error bad h k = k
fault_or_bad_quote (Find os pattern) input error bad h k = k
fault_or_bad_quote (Split os pattern) input error bad h k = k
fault_or_bad_quote (Chunks os) input error bad h k = k
fault_or_bad_quote (Quote os) input error bad h k = k
fault_or_bad_quote (Unquote os) input error bad h k = no_text_fault input error k.0 h

bad_line_or_bad_quote : (command : Command) (input : List ℕ) (number : ℕ) (bad : QuoteError) → HasBadLine command input number → HasBadQuote command input bad → ⊥
bad_line_or_bad_quote (Units os) input number bad h k = k
bad_line_or_bad_quote (Raw os) input number bad h k = k
bad_line_or_bad_quote (Find os pattern) input number bad h k = k
bad_line_or_bad_quote (Split os pattern) input number bad h k = k
bad_line_or_bad_quote (Chunks os) input number bad h k = k
bad_line_or_bad_quote (Quote os) input number bad h k = k
bad_line_or_bad_quote (Unquote os) input number bad h k = h

pub one_rejection : (command : Command) (input : List ℕ) (f g : Fault) → IsRejection command input f → IsRejection command input g → f ≡ g
one_rejection command input (Refused d) (Refused e) h k = ap Refused (one_fault command input d e h k)
one_rejection command input (Refused d) (BadLine n) h k = absurd (fault_or_bad_line command input d n h k)
one_rejection command input (BadLine m) (Refused e) h k = absurd (fault_or_bad_line command input e m k h)
one_rejection command input (BadLine m) (BadLine n) h k = ap BadLine (one_bad command input m n h k)
one_rejection command input (Refused d) (BadQuote b) h k = absurd (fault_or_bad_quote command input d b h k)
one_rejection command input (BadLine m) (BadQuote b) h k = absurd (bad_line_or_bad_quote command input m b h k)
one_rejection command input (BadQuote b) (Refused e) h k = absurd (fault_or_bad_quote command input e b k h)
one_rejection command input (BadQuote b) (BadLine n) h k = absurd (bad_line_or_bad_quote command input n b k h)
one_rejection command input (BadQuote b) (BadQuote c) h k = ap BadQuote (one_bad_quote command input b c h k)
one_rejection command input (Refused d) _ h k = absurd k
one_rejection command input (BadLine m) _ h k = absurd k
one_rejection command input (BadQuote b) _ h k = absurd k
one_rejection command input _ g h k = absurd h

-- the result of a run that read all the input, and then had no memory for it or rejected it
pub rejected : {T : Type 0} (command : Command) (input left : Option (List ℕ)) (bytes : List ℕ) (answer : Result T Fault) (given : Fault)
    → Consumes input left bytes → IsAtEnd left → answer ≡ Err given → (given ≡ Memory) ⊎ IsRejection command bytes given → AnswersRejection command input answer
rejected command input left bytes answer given read end is (inl memory) =
    Consumes-whole input left bytes _ read end (λ fault rejection. inr (inr (is ∙ ap Err memory)))
rejected command input left bytes answer given read end is (inr rejection) =
    Consumes-whole input left bytes _ read end (λ fault other. inl (is ∙ ap Err (one_rejection command bytes given fault rejection other)))

-- the result of a run that read all the input, and had an output for it
pub not_rejected : {T : Type 0} (command : Command) (input left : Option (List ℕ)) (bytes output : List ℕ) (answer : Result T Fault)
    → Consumes input left bytes → IsAtEnd left → IsOutput command bytes output → AnswersRejection command input answer
not_rejected command input left bytes output answer read end given =
    Consumes-whole input left bytes _ read end (λ fault rejection. absurd (output_or_rejection command bytes output fault given rejection))
