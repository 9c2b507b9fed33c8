-- The text and the exit status of why a run over a list ends early.
use Rattle.std.specs.Prelude.{ℕ, List, ◌++◌, codes, decimal}
use Rattle.program_frame.specs.Fault as failure
use Rattle.list_programs.specs.declared.options.ItemEnd.{ItemEnd}
use Rattle.list_programs.specs.declared.options.ItemEnd.TheVariants.{Nul, Newline}
use Rattle.list_programs.specs.declared.fault.ListFault.{ListFault}
use Rattle.list_programs.specs.declared.fault.ListFault.TheVariants.{Rejected, TooLong, Unended, TooMuch, Run}

-- what comes before the reason why an item is rejected
abbrev pub index_text : List ℕ → ℕ → List ℕ
index_text item number = item ++ (codes " " ++ (decimal number ++ codes ": "))

-- what a program prints where the last item, which is called this and has this number, lacks the byte that has to end it
abbrev pub unended_text : List ℕ → ℕ → ItemEnd → List ℕ
unended_text item number Nul = codes "no NUL ends " ++ (item ++ (codes " " ++ (decimal number ++ codes "; use find -print0 or git ls-files -z")))
unended_text item number Newline = index_text item number ++ codes "no newline ends the line"

-- what a program prints of the fault, where items are called this and reasons have these texts
abbrev pub text_of : {F : Type 0} → List ℕ → (F → List ℕ) → ListFault F → List ℕ
text_of item reason (Rejected number why) = index_text item number ++ reason why
text_of item reason (TooLong number most) = index_text item number ++ (codes "longer than " ++ (decimal most ++ codes " bytes"))
text_of item reason (Unended number end) = unended_text item number end
text_of item reason TooMuch = codes "2^64 bytes of input or more"
text_of item reason (Run why) = failure.text_of why

-- the status that a program ends with
abbrev pub status_of : {F : Type 0} → ListFault F → ℕ
status_of (Rejected number why) = 1
status_of (TooLong number most) = 1
status_of (Unended number end) = 1
status_of TooMuch = 1
status_of (Run why) = failure.status_of why
