-- The text and the exit status of each fault.
use Rattle.std.specs.Prelude.{ℕ, List, ◌++◌, codes, decimal}
use Rattle.os_str_bytes.specs.FaultText.{fault_text}
use Rattle.os_quote.specs.ErrorText.{error_text}
use Rattle.program_frame.specs.declared.fault.Failure.{Failure}
use Rattle.program_frame.specs.declared.fault.Failure.TheVariants as failure
use Rattle.osbytes_commands.specs.declared.fault.Fault.{Fault}
use Rattle.osbytes_commands.specs.declared.fault.Fault.TheVariants.{Refused, BadLine, BadQuote, Usage, Memory, Read, Write}

-- what the program prints of the fault; out of memory is a fault of its own
abbrev pub text_of : Fault → List ℕ
text_of (Refused error) = fault_text error
text_of (BadLine number) = codes "line " ++ (decimal number ++ codes " is not a unit")
text_of (BadQuote error) = error_text error
text_of Usage = codes "usage: osbytes units|raw|find|split|chunks unix|windows|wasm [PAT]"
text_of Memory = codes "out of memory"
text_of Read = codes "read failed"
text_of Write = codes "write failed"

-- the status that the program ends with
abbrev pub status_of : Fault → ℕ
status_of (Refused error) = 1
status_of (BadLine number) = 1
status_of (BadQuote error) = 1
status_of Usage = 2
status_of Memory = 3
status_of Read = 4
status_of Write = 4

-- the fault of what keeps a run from going on
abbrev pub fault_of : Failure → Fault
fault_of failure.Memory = Memory
fault_of failure.Read = Read
fault_of failure.Write = Write
