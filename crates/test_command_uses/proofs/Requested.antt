-- Arguments that request something, for the programs `names` and `paths`.
use Rattle.std.proofs.Common.{◌≡◌, ◌⊎◌, inl, inr, ℕ, List, Option, Result, Ok, Err, refl, ◌∙◌, subst, sym}
use Rattle.std.specs.Prelude.{⊤, [], codes, IfErr, IsTrue, ◌↔◌}
use Rattle.names_commands.proofs.lemmas.NeverBoth.{no_request}
use Rattle.names_commands.specs.Command.{Requested, HasOperands, IsRequestFor, IsListed, IsRequestError, Line, MakesUp, OptionsMatch, StatesPicks}
use Rattle.names_commands.specs.declared.command.Name.{Name}
use Rattle.names_commands.specs.declared.command.Command.TheVariants.{Version as VersionCommand}
use Rattle.names_commands.specs.declared.option.NamesOption.TheVariants.{Exclude, ExitStatus, GlobsFrom, Help, IgnoreCase, Invert, Version}
use Rattle.list_programs.specs.Arguments.{AreValues, HasOption}
use Rattle.names_commands.specs.declared.command.RequestError.{RequestError}
use Rattle.names_commands.specs.declared.command.RequestError.TheVariants.{Misuse, Memory as NoMemory}
use Rattle.list_programs.specs.declared.misuse.Misuse.TheVariants.{Missing}
use Rattle.program_frame.specs.declared.fault.Failure.TheVariants.{Memory}
use Rattle.program_frame.specs.declared.os.Os.{Os}
use Rattle.list_programs.specs.declared.fault.ListFault.TheVariants.{Run}
use Rattle.list_programs.specs.declared.program_fault.Fault.TheVariants.{List as OfList}
use Rattle.paths_commands.specs.Program.{Fault, RunsTo}
use Rattle.test_command_uses.specs.Requests.{RequestsSome, RunsSome}

-- they aren't rejected
pub requested : (words : List (List ℕ)) (input left old new : Option (List ℕ)) (answer : Result ⊤ Fault) → RequestsSome words → RunsTo words input left old new answer → RunsSome words input left old new answer
requested words input left old new answer some (inl memory) = inl memory.0
requested words input left old new answer some (inr (inl rejects)) = absurd (rejects.0 some.0 some.1.0 some.1.1.0 some.1.1.1.0 some.1.1.1.1)
requested words input left old new answer some (inr (inr runs)) = inr runs

-- a run, whichever end is to blame
pub of_run : {X Y Z : Type 0} → X ⊎ (Y × Z) → X ⊎ Y
of_run (inl x) = inl x
of_run (inr runs) = inr runs.0

-- the result of the program with such arguments
pub requested_end : (X : Type 0) (words : List (List ℕ)) (input left old new : Option (List ℕ)) (outcome answer : Result ⊤ Fault) → answer ≡ outcome → RequestsSome words → ((outcome ≡ Err (OfList (Run Memory))) × X) ⊎ RunsTo words input left old new outcome → RunsSome words input left old new answer
requested_end X words input left old new outcome answer is some (inl memory) = inl (is ∙ memory.0)
requested_end X words input left old new outcome answer is some (inr runs) = subst (RunsSome words input left old new) (sym is) (requested words input left old new outcome some runs)

-- neither are those that make up a request of `names`
pub never_rejected : {X : Type 0} (given : Line) (answer : Result X RequestError) → IfErr answer (IsRequestError given) → (requested : Requested) → IsRequestFor given requested → IfErr answer (λ error. error ≡ NoMemory)
never_rejected given (Ok found) error requested requests = tt
never_rejected given (Err (Misuse misuse)) error requested requests = absurd (error.no_request requested requests)
never_rejected given (Err NoMemory) error requested requests = refl

-- such a request states its patterns of names to leave out, where no help and no version is requested
pub excluded_stated : (given : Line) (requested : Requested) → ¬ (HasOption Help given) → ¬ (HasOption Version given) → IsRequestFor given requested → AreValues Exclude given requested.excluded
excluded_stated given requested no_help no_version (inl help) = absurd (no_help help.0)
excluded_stated given requested no_help no_version (inr requests) = by requests.1
  where
    by : ((HasOption Version given × (requested.command ≡ VersionCommand)) ⊎ ((¬ (HasOption Version given)) × (IsListed given requested.list × (MakesUp given requested.command × StatesPicks given requested)))) → AreValues Exclude given requested.excluded
    by (inl version) = absurd (no_version version.0)
    by (inr c) = c.1.1.1.1.1.1.1.0

-- such a request states its pattern files, where no help and no version is requested
pub files_stated : (given : Line) (requested : Requested) → ¬ (HasOption Help given) → ¬ (HasOption Version given) → IsRequestFor given requested → AreValues GlobsFrom given requested.pattern_files
files_stated given requested no_help no_version (inl help) = absurd (no_help help.0)
files_stated given requested no_help no_version (inr requests) = by requests.1
  where
    by : ((HasOption Version given × (requested.command ≡ VersionCommand)) ⊎ ((¬ (HasOption Version given)) × (IsListed given requested.list × (MakesUp given requested.command × StatesPicks given requested)))) → AreValues GlobsFrom given requested.pattern_files
    by (inl version) = absurd (no_version version.0)
    by (inr c) = c.1.1.1.0.1

-- a request is without regard to case exactly where the option for that is given, and no help and no version is requested
pub case_stated : (given : Line) (requested : Requested) → ¬ (HasOption Help given) → ¬ (HasOption Version given) → IsRequestFor given requested → IsTrue requested.case_insensitive ↔ HasOption IgnoreCase given
case_stated given requested no_help no_version (inl help) = absurd (no_help help.0)
case_stated given requested no_help no_version (inr requests) = by requests.1
  where
    by : ((HasOption Version given × (requested.command ≡ VersionCommand)) ⊎ ((¬ (HasOption Version given)) × (IsListed given requested.list × (MakesUp given requested.command × StatesPicks given requested)))) → IsTrue requested.case_insensitive ↔ HasOption IgnoreCase given
    by (inl version) = absurd (no_version version.0)
    by (inr c) = c.1.1.1.1.1.1.0

-- it has a status for a run that writes nothing exactly where the option for that is given, and no help and no version is requested
pub status_stated : (given : Line) (requested : Requested) → ¬ (HasOption Help given) → ¬ (HasOption Version given) → IsRequestFor given requested → IsTrue requested.exit_status ↔ HasOption ExitStatus given
status_stated given requested no_help no_version (inl help) = absurd (no_help help.0)
status_stated given requested no_help no_version (inr requests) = by requests.1
  where
    by : ((HasOption Version given × (requested.command ≡ VersionCommand)) ⊎ ((¬ (HasOption Version given)) × (IsListed given requested.list × (MakesUp given requested.command × StatesPicks given requested)))) → IsTrue requested.exit_status ↔ HasOption ExitStatus given
    by (inl version) = absurd (no_version version.0)
    by (inr c) = c.1.1.1.1.1.1.1.1

-- a request never inverts where no names that match are stated, and no help and no version is requested
pub never_inverted : (given : Line) (requested : Requested) → (command : Name) × ((os : Os) × HasOperands given command os []) → ¬ (OptionsMatch given) → ¬ (HasOption Help given) → ¬ (HasOption Version given) → IsRequestFor given requested → ¬ (IsTrue requested.inverted)
never_inverted given requested has none no_help no_version (inl help) held = no_help help.0
never_inverted given requested has none no_help no_version (inr requests) held = by requests.1
  where
    by : ((HasOption Version given × (requested.command ≡ VersionCommand)) ⊎ ((¬ (HasOption Version given)) × (IsListed given requested.list × (MakesUp given requested.command × StatesPicks given requested)))) → ⊥
    by (inl version) = no_version version.0
    by (inr c) =
        let inverts : HasOption Invert given = c.1.1.1.1.1.0.0 held in
        no_request given no_help no_version (Missing (record { ref_ptr = (0, 0); now = codes "GLOB, --glob, --globs-from, --name or --ignore for --invert" })) (inr (inr (inl (refl, (has.0, has.1.0, (has.1.1, (inverts, none))))))) requested (inr requests)
