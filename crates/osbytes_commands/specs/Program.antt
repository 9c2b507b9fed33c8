-- The whole program, from the words after its name to its exit status.
use Rattle.std.specs.Prelude.{◌≡◌, ◌≢◌, ◌↔◌, ℕ, List, Option, true, IfErr, OnOk, Result, Err, ⊤}
use Rattle.std.specs.Io.KnownBytes.{IsAtEnd}
use Rattle.program_frame.specs.Marked.{marked_inner, has_failed}
use Rattle.program_frame.specs.declared.marked.Marked.{Marked}
use Rattle.osbytes_commands.specs.declared.command.Command.{Command}
use Rattle.osbytes_commands.specs.declared.fault.Fault.{Fault}
use Rattle.osbytes_commands.specs.declared.fault.Fault.TheVariants.{Usage, Read, Write}
use Rattle.osbytes_commands.specs.Command.{words_of, IsUnusable}
use Rattle.osbytes_commands.specs.Output.{IsOfInput}
use Rattle.osbytes_commands.specs.Run.{WritesOutput, WritesBeginning, RejectsInput, AnswersRejection}

-- no command that can run has these words
abbrev pub AreNoCommand : List (List ℕ) → Type 0
AreNoCommand words = (command : Command) → words ≡ words_of command → IsUnusable command

-- what `run` ensures of the command, its input, what its writer held and holds, and its result
pub record IsOutcome {T : Type 0} (command : Command) (input old new : Option (List ℕ)) (answer : Result T Fault) : Type 0 where
  pub written : OnOk answer (WritesOutput command input old new)
  pub of_input : IfErr answer (λ fault. IsOfInput fault → RejectsInput command input fault)
  pub rejection : AnswersRejection command input answer
  pub beginning_written : answer ≡ Err Write → WritesBeginning command input old new

-- the command that has these words has this outcome, or none that can run has them. A read or a write is to blame exactly where the reader or the writer is marked, and before any fault but that of a write nothing is written. These are what the reader and the writer were and are, and what is known of the bytes that readers have left and that writers hold
pub record RunsTo {R W : Type 0} (words : List (List ℕ)) (remaining : R → Option (List ℕ)) (contents : W → Option (List ℕ)) (reader read : Marked R) (writer written : Marked W) (outcome : Result ⊤ Fault) : Type 0 where
  pub usage : (outcome ≡ Err Usage) ↔ AreNoCommand words
  pub run : (command : Command) → words ≡ words_of command → IsOutcome command (remaining (marked_inner reader)) (contents (marked_inner writer)) (contents (marked_inner written)) outcome
  pub all_read : OnOk outcome (IsAtEnd (remaining (marked_inner read)))
  pub read_failed : (outcome ≡ Err Read) ↔ (has_failed read ≡ true)
  pub write_failed : (outcome ≡ Err Write) ↔ (has_failed written ≡ true)
  pub nothing_written : IfErr outcome (λ fault. fault ≢ Write → written ≡ writer)
