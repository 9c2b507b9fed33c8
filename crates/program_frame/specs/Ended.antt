-- What is known of a program that has ended.
use Rattle.std.specs.Prelude.{ℕ, List, ◌++◌, codes, Bool, ⊤, Result, Ok, Err}
use Rattle.program_frame.specs.declared.ended.Ended.{Ended}

-- the outcome of its run
abbrev pub outcome_of : {F : Type 0} → Ended F → Result ⊤ F
outcome_of ended = ended.outcome

-- whether the whole message was taken, where there was one
abbrev pub was_reported : {F : Type 0} → Ended F → Bool
was_reported ended = ended.reported

-- what the program of this name prints of a fault with this text
abbrev pub message : List ℕ → List ℕ → List ℕ
message name text = name ++ (codes ": " ++ (text ++ codes "\n"))

-- the status that the program ends with, where faults have these
abbrev pub status_after : {F : Type 0} → (F → ℕ) → Result ⊤ F → ℕ
status_after status_of (Ok done) = 0
status_after status_of (Err fault) = status_of fault
