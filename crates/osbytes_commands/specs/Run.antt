-- What a run does with the bytes that its reader had left, as far as they are known.
use Rattle.std.specs.Prelude.{◌≡◌, ◌⊎◌, ℕ, List, Option, IfSome, Result, Err}
use Rattle.std.specs.Io.KnownBytes.{Appends}
use Rattle.osbytes_commands.specs.declared.command.Command.{Command}
use Rattle.osbytes_commands.specs.declared.fault.Fault.{Fault}
use Rattle.osbytes_commands.specs.declared.fault.Fault.TheVariants.{Read, Memory}
use Rattle.osbytes_commands.specs.Output.{IsOutput, IsRejection}
use Rattle.program_frame.specs.Written.{AppendsBeginning}

-- the contents grew by the output for the input
abbrev pub WritesOutput : Command → Option (List ℕ) → Option (List ℕ) → Option (List ℕ) → Type 0
WritesOutput command input old new =
    IfSome input (λ bytes. (output : List ℕ) × IsOutput command bytes output × Appends old new output)

-- the contents grew by a beginning of the output for the input
abbrev pub WritesBeginning : Command → Option (List ℕ) → Option (List ℕ) → Option (List ℕ) → Type 0
WritesBeginning command input old new =
    IfSome input (λ bytes. (output : List ℕ) × IsOutput command bytes output × AppendsBeginning old new output)

-- the command rejects the input with the fault
abbrev pub RejectsInput : Command → Option (List ℕ) → Fault → Type 0
RejectsInput command input fault = IfSome input (λ bytes. IsRejection command bytes fault)

-- if the command rejects the input with a fault, the result is that fault, unless a read or an allocation failed
abbrev pub AnswersRejection : {T : Type 0} → Command → Option (List ℕ) → Result T Fault → Type 0
AnswersRejection command input answer =
    IfSome input (λ bytes. (fault : Fault) → IsRejection command bytes fault
    → (answer ≡ Err fault) ⊎ (answer ≡ Err Read) ⊎ (answer ≡ Err Memory))
