-- Arguments that request a command run it, and others are rejected.
use Rattle.std.proofs.Common.{inl, inr, ℕ, List, Option, Result}
use Rattle.std.specs.Prelude.{⊤}
use Rattle.os_args.specs.Views.{fault_of}
use Rattle.os_args.specs.declared.error.ArgumentError.{ArgumentError}
use Rattle.os_str_bytes.specs.Wasm.{Wasm}
use Rattle.os_str_bytes.specs.WasmPlatform.TheImpl as wasm
use Rattle.platform_str.specs.declared.os_str.OsStr.{OsStr}
use Rattle.list_programs.specs.Arguments.{HasFault}
use Rattle.list_programs.specs.declared.program_fault.Fault.TheVariants.{Words}
use Rattle.list_programs.specs.declared.misuse.Misuse.TheVariants.{Argument}
use Rattle.paths_commands.specs.Command.{AreRead, Line}
use Rattle.paths_commands.specs.Fault.{IsOfMisuse}
use Rattle.paths_commands.specs.Options.{has_value, spelled}
use Rattle.paths_commands.specs.Program.{EndsAtOnce, Fault, RunsLine, RunsTo}
use Rattle.paths_commands.specs.declared.fault.CommandFault.{CommandFault}
use Rattle.paths_commands.proofs.lemmas.ReadOnce.{none_given, none_requested}

module _ (words : List (List ℕ)) (input left old new : Option (List ℕ)) (answer : Result ⊤ Fault) where
  pub line_runs : (after_end : ℕ) (given : Line) → AreRead words after_end given → RunsLine after_end given input left old new answer → RunsTo words input left old new answer
  line_runs after_end given are (inl rejects) = inr (inl (none_requested words after_end given are rejects.0, inr (after_end, (given, (are, rejects)))))
  line_runs after_end given are (inr runs) = inr (inr (after_end, (given, (are, runs))))

  pub fault_ends : (error : ArgumentError (OsStr Wasm wasm.ghosts)) (why : CommandFault) → HasFault spelled has_value words (fault_of error) → IsOfMisuse (Argument error) why
      → EndsAtOnce (Words why) input left old new answer → RunsTo words input left old new answer
  fault_ends error why faulty is ends = inr (inl ((λ after_end given are. absurd (none_given words (fault_of error) given faulty are.0)), inl (error, (why, ((faulty, is), ends)))))
