-- The text and the exit status of what keeps a run from going on.
use Rattle.std.specs.Prelude.{ℕ, List, codes}
use Rattle.program_frame.specs.declared.fault.Failure.{Failure}
use Rattle.program_frame.specs.declared.fault.Failure.TheVariants.{Memory, Read, Write}

-- what a program prints of the failure
abbrev pub text_of : Failure → List ℕ
text_of Memory = codes "out of memory"
text_of Read = codes "read failed"
text_of Write = codes "write failed"

-- the status that a program ends with after it
abbrev pub status_of : Failure → ℕ
status_of Memory = 3
status_of Read = 4
status_of Write = 4
