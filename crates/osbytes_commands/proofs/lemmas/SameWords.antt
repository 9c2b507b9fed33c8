-- What a command does is decided by its words.
use Rattle.std.proofs.Common.{◌≡◌, ℕ, List, [], Option, Result, length, get_or, refl, sym, ap, subst, ◌∙◌, arith}
use Rattle.std.specs.Prelude.{◌<◌, IfSome, IfErr, OnOk, Err, ◌⊎◌}
use Rattle.std.specs.Io.KnownBytes.{Appends}
use Rattle.program_frame.specs.declared.os.Os.{Os}
use Rattle.program_frame.specs.declared.os.Os.TheVariants.{Unix, Windows, Wasm}
use Rattle.osbytes_commands.specs.declared.command.Command.{Command}
use Rattle.osbytes_commands.specs.declared.command.Command.TheVariants.{Units, Raw, Find, Split, Chunks, Quote, Unquote}
use Rattle.osbytes_commands.specs.declared.fault.Fault.{Fault}
use Rattle.osbytes_commands.specs.declared.fault.Fault.TheVariants.{Refused, BadLine, BadQuote, Usage, Memory, Read, Write}
use Rattle.program_frame.specs.Os.{os_word}
use Rattle.osbytes_commands.specs.Command.{words_of, IsUnusable}
use Rattle.osbytes_commands.specs.Lines.{index_line, piece_lines}
use Rattle.osbytes_commands.specs.Output.{IsOutput, IsRejection, IsOfInput, FindsFirst, AreSplit}
use Rattle.osbytes_commands.specs.Program.{IsOutcome}
use Rattle.program_frame.specs.Strings.{strings}
use Rattle.program_frame.specs.Written.{AppendsBeginning}

-- the rejections of `split` at a text
abbrev SplitRejection : Os → List ℕ → List ℕ → Fault → Type 0
SplitRejection os text input (Refused error) = (0 < length text) × (strings os).first_fault input error
SplitRejection os text input (BadLine number) = ⊥
SplitRejection os text input (BadQuote error) = ⊥
SplitRejection os text input Usage = ⊥
SplitRejection os text input Memory = ⊥
SplitRejection os text input Read = ⊥
SplitRejection os text input Write = ⊥

same_os : (a b : Os) → os_word a ≡ os_word b → a ≡ b
same_os Unix Unix e = refl
same_os Unix Windows e = let lengths : ◌≡◌ {A = ℕ} 4 7 = ap length e in absurd (omega arith)
same_os Unix Wasm e = let letters : ◌≡◌ {A = ℕ} 117 119 = ap (λ word. get_or word 0 0) e in absurd (omega arith)
same_os Windows Unix e = let lengths : ◌≡◌ {A = ℕ} 7 4 = ap length e in absurd (omega arith)
same_os Windows Windows e = refl
same_os Windows Wasm e = let lengths : ◌≡◌ {A = ℕ} 7 4 = ap length e in absurd (omega arith)
same_os Wasm Unix e = let letters : ◌≡◌ {A = ℕ} 119 117 = ap (λ word. get_or word 0 0) e in absurd (omega arith)
same_os Wasm Windows e = let lengths : ◌≡◌ {A = ℕ} 4 7 = ap length e in absurd (omega arith)
same_os Wasm Wasm e = refl

-- the third letter of the command's word
abbrev letter : Command → ℕ
letter (Units os) = 105
letter (Raw os) = 119
letter (Find os pattern) = 110
letter (Split os pattern) = 108
letter (Chunks os) = 117
letter (Quote os) = 111
letter (Unquote os) = 113

letter_is : (c : Command) → letter c ≡ get_or (get_or (words_of c) 0 []) 2 0
letter_is (Units os) = refl
letter_is (Raw os) = refl
letter_is (Find os pattern) = refl
letter_is (Split os pattern) = refl
letter_is (Chunks os) = refl
letter_is (Quote os) = refl
letter_is (Unquote os) = refl

same_letter : (c d : Command) → words_of c ≡ words_of d → letter c ≡ letter d
same_letter c d e = letter_is c ∙ ap (λ words. get_or (get_or words 0 []) 2 0) e ∙ sym (letter_is d)

-- what holds of one command's output, of its rejections and of whether it can't run holds of another's with the same arguments
same_meaning : (M : (List ℕ → List ℕ → Type 0) → (List ℕ → Fault → Type 0) → Type 0 → Type 0) (c d : Command) → words_of c ≡ words_of d
    → M (IsOutput c) (IsRejection c) (IsUnusable c) → M (IsOutput d) (IsRejection d) (IsUnusable d)
same_meaning M (Units a) (Units b) e m = subst (λ os. M (IsOutput (Units os)) (IsRejection (Units os)) ⊥) (same_os a b (ap (λ words. get_or words 1 []) e)) m
same_meaning M (Raw a) (Raw b) e m = subst (λ os. M (IsOutput (Raw os)) (IsRejection (Raw os)) ⊥) (same_os a b (ap (λ words. get_or words 1 []) e)) m
same_meaning M (Chunks a) (Chunks b) e m = subst (λ os. M (IsOutput (Chunks os)) (IsRejection (Chunks os)) ⊥) (same_os a b (ap (λ words. get_or words 1 []) e)) m
same_meaning M (Quote a) (Quote b) e m = subst (λ os. M (IsOutput (Quote os)) (IsRejection (Quote os)) ⊥) (same_os a b (ap (λ words. get_or words 1 []) e)) m
same_meaning M (Unquote a) (Unquote b) e m = subst (λ os. M (IsOutput (Unquote os)) (IsRejection (Unquote os)) ⊥) (same_os a b (ap (λ words. get_or words 1 []) e)) m
same_meaning M (Find a p) (Find b q) e m =
    let on_platform = subst (λ os. M (IsOutput (Find os p)) (IsRejection (Find os p)) ⊥) (same_os a b (ap (λ words. get_or words 1 []) e)) m in
    let same : p.now ≡ q.now = ap (λ words. get_or words 2 []) e in
    subst (λ text. M (λ input output. (strings b).well_formed input × ((index : Option ℕ) × FindsFirst (strings b) text input index × (output ≡ index_line index))) (IsRejection (Find b q)) ⊥) same on_platform
same_meaning M (Split a p) (Split b q) e m =
    let on_platform = subst (λ os. M (IsOutput (Split os p)) (IsRejection (Split os p)) (length p.now ≡ 0)) (same_os a b (ap (λ words. get_or words 1 []) e)) m in
    let same : p.now ≡ q.now = ap (λ words. get_or words 2 []) e in
    subst (λ text. M (λ input output. (strings b).well_formed input × ((pieces : List (List ℕ)) × AreSplit (strings b) text input pieces × (output ≡ piece_lines pieces))) (SplitRejection b text) (length text ≡ 0)) same on_platform
same_meaning M (Units a) d e m = let letters = same_letter (Units a) d e in absurd (omega arith)
same_meaning M (Raw a) d e m = let letters = same_letter (Raw a) d e in absurd (omega arith)
same_meaning M (Quote a) d e m = let letters = same_letter (Quote a) d e in absurd (omega arith)
same_meaning M (Unquote a) d e m = let letters = same_letter (Unquote a) d e in absurd (omega arith)
same_meaning M (Chunks a) d e m = let letters = same_letter (Chunks a) d e in absurd (omega arith)
same_meaning M (Find a p) d e m = let letters = same_letter (Find a p) d e in absurd (omega arith)
same_meaning M (Split a p) d e m = let letters = same_letter (Split a p) d e in absurd (omega arith)

-- a command with the words of one that can't run can't run
pub same_unusable : (c d : Command) (words : List (List ℕ)) → words ≡ words_of c → IsUnusable c → words ≡ words_of d → IsUnusable d
same_unusable c d words of_c unusable of_d = let e : words_of c ≡ words_of d = sym of_c ∙ of_d in same_meaning (λ Writes Rejects Unusable. Unusable) c d e unusable

pub same_outcome : {T : Type 0} (c d : Command) (words : List (List ℕ)) (input old new : Option (List ℕ)) (answer : Result T Fault)
    → words ≡ words_of c → IsOutcome c input old new answer → words ≡ words_of d → IsOutcome d input old new answer
same_outcome c d words input old new answer of_c outcome of_d = let e : words_of c ≡ words_of d = sym of_c ∙ of_d in record {
  written = same_meaning (λ Writes Rejects Unusable. OnOk answer (IfSome input (λ bytes. (output : List ℕ) × Writes bytes output × Appends old new output))) c d e outcome.written;
  of_input = same_meaning (λ Writes Rejects Unusable. IfErr answer (λ fault. IsOfInput fault → IfSome input (λ bytes. Rejects bytes fault))) c d e outcome.of_input;
  rejection = same_meaning (λ Writes Rejects Unusable. IfSome input (λ bytes. (fault : Fault) → Rejects bytes fault → (answer ≡ Err fault) ⊎ (answer ≡ Err Read) ⊎ (answer ≡ Err Memory))) c d e outcome.rejection;
  beginning_written = same_meaning (λ Writes Rejects Unusable. answer ≡ Err Write → IfSome input (λ bytes. (output : List ℕ) × Writes bytes output × AppendsBeginning old new output)) c d e outcome.beginning_written;
}
