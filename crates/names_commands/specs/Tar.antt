-- What is written of an archive: the names of its entries (`AreNames` of `tar_names`), each with its end.
use Rattle.std.specs.Prelude.{◌≡◌, ◌⊎◌, ℕ, ◌+◌, ◌<◌, List, [], ◌∷◌, ◌++◌, length, false, Option, None, Some}
use Rattle.os_str_bytes.specs.Platform.{Ghosts}
use Rattle.list_programs.specs.ListOptions.{byte_of}
use Rattle.list_programs.specs.declared.fault.ListFault.{ListFault}
use Rattle.list_programs.specs.declared.fault.ListFault.TheVariants.{Rejected, TooLong, Unended, TooMuch, Run}
use Rattle.list_programs.specs.declared.options.ListOptions.{ListOptions}
use Rattle.tar_names.specs.Names.{AreNames}
use Rattle.tar_names.specs.declared.fault.TarFault.{TarFault}
use Rattle.names_commands.specs.Names.{IsNameRejection, IsUnfit}
use Rattle.names_commands.specs.Words.{IsName}
use Rattle.names_commands.specs.declared.fault.Rejection.{Rejection}
use Rattle.names_commands.specs.declared.fault.Rejection.TheVariants.{BadArchive}

-- an entry's name that is written: it is a string of the platform, can be written with its end, and has at most `max` bytes
pub record IsItem {E : Type 0} (p : Ghosts E) (list : ListOptions) (name : List ℕ) : Type 0 where
  pub formed : p.well_formed name
  pub is : IsName list name

-- why the name of the entry with this number isn't written
abbrev pub IsNoItem : {E : Type 0} → Ghosts E → ListOptions → ℕ → List ℕ → ListFault Rejection → Type 0
IsNoItem p list number name (Rejected n why) = (n ≡ number) × (IsNameRejection p name why ⊎ IsUnfit list.end name why)
IsNoItem p list number name (TooLong n most) = (n ≡ number) × ((most ≡ list.max) × (list.max < length name))
IsNoItem p list number name (Unended n end) = ⊥
IsNoItem p list number name TooMuch = ⊥
IsNoItem p list number name (Run why) = ⊥

-- what is written for names, the first of which has this number: each with its end, but for those that are rejected. The first of these is the result, or else the fault of the archive, with the number of the entry that couldn't be read
pub data AreWritten {E : Type 0} (p : Ghosts E) (list : ListOptions) : ℕ → List (List ℕ) → Option TarFault → List ℕ → Option (ListFault Rejection) → Type 0 where
  ended : {number : ℕ} → AreWritten p list number [] None [] None
  faulty : {number : ℕ} {fault : TarFault} → AreWritten p list number [] (Some fault) [] (Some (Rejected number (BadArchive fault)))
  written : {number : ℕ} {name output : List ℕ} {names : List (List ℕ)} {end : Option TarFault} {first : Option (ListFault Rejection)}
      → IsItem p list name → AreWritten p list (number + 1) names end output first → AreWritten p list number (name ∷ names) end ((name ++ byte_of list.end ∷ []) ++ output) first
  rejected : {number : ℕ} {name output : List ℕ} {names : List (List ℕ)} {end : Option TarFault} {later : Option (ListFault Rejection)} {fault : ListFault Rejection}
      → IsNoItem p list number name fault → AreWritten p list (number + 1) names end output later → AreWritten p list number (name ∷ names) end output (Some fault)

-- what is written of an archive, and the first entry that is rejected
pub record IsTarOutput {E : Type 0} (p : Ghosts E) (list : ListOptions) (archive output : List ℕ) (first : Option (ListFault Rejection)) : Type 0 where
  pub names : List (List ℕ)
  pub end : Option TarFault
  pub are : AreNames None None false archive names end
  pub written : AreWritten p list 1 names end output first

-- of what was rejected so far and what is rejected later, the first
abbrev pub earlier : Option (ListFault Rejection) → Option (ListFault Rejection) → Option (ListFault Rejection)
earlier None later = later
earlier (Some fault) later = Some fault
