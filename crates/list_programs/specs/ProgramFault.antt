-- The text and the exit status of what keeps a program for lists from its output.
use Rattle.std.specs.Prelude.{◌≡◌, ◌↔◌, ℕ, List, Bool, true, Option, Result, Err, ⊤}
use Rattle.program_frame.specs.Marked.{marked_inner, has_failed}
use Rattle.program_frame.specs.declared.marked.Marked.{Marked}
use Rattle.list_programs.specs.ListFault as list_fault
use Rattle.list_programs.specs.Rules.{EndsRun}
use Rattle.program_frame.specs.declared.fault.Failure.TheVariants.{Read, Write}
use Rattle.list_programs.specs.declared.fault.ListFault.TheVariants.{Run}
use Rattle.list_programs.specs.declared.program_fault.Fault.{Fault}
use Rattle.list_programs.specs.declared.program_fault.Fault.TheVariants.{List as OfList, Words}

-- what the program prints of the fault, where items are called this and reasons have these texts
abbrev pub text_of : {F U : Type 0} → List ℕ → (F → List ℕ) → (U → List ℕ) → Fault F U → List ℕ
text_of item reason words (OfList fault) = list_fault.text_of item reason fault
text_of item reason words (Words why) = words why

-- the run may end with this fault, where this states whether an item that is rejected may end it
abbrev pub EndsRunOf : {F U : Type 0} → Type 0 → Fault F U → Type 0
EndsRunOf stops (OfList fault) = EndsRun stops fault
EndsRunOf stops (Words why) = Unit {0}

-- the status that the program ends with, where rejections of arguments have these
abbrev pub status_of : {F U : Type 0} → (U → ℕ) → Fault F U → ℕ
status_of words (OfList fault) = list_fault.status_of fault
status_of words (Words why) = words why

-- the result blames a read exactly where the reader's mark is set, and a write exactly where the writer's is
abbrev pub BlamesEnds : {F U : Type 0} → Result ⊤ (Fault F U) → Bool → Bool → Type 0
BlamesEnds answer reader writer = ((answer ≡ Err (OfList (Run Read))) ↔ (reader ≡ true)) × ((answer ≡ Err (OfList (Run Write))) ↔ (writer ≡ true))

-- this is done between these states of a reader and a writer, of whose bytes this is known, and the result blames them
abbrev pub DoneBetween : {F U R W : Type 0} → (R → Option (List ℕ)) → (W → Option (List ℕ)) → (Option (List ℕ) → Option (List ℕ) → Option (List ℕ) → Option (List ℕ) → Result ⊤ (Fault F U) → Type 0) → Marked R → Marked R → Marked W → Marked W → Result ⊤ (Fault F U) → Type 0
DoneBetween remaining contents Done reader read writer written answer =
    Done (remaining (marked_inner reader)) (remaining (marked_inner read)) (contents (marked_inner writer)) (contents (marked_inner written)) answer
    × BlamesEnds answer (has_failed read) (has_failed written)
