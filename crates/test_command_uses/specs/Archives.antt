-- What `names tar` does with archives that have a fault at their first header.
use Rattle.std.specs.Prelude.{◌≡◌, ◌⊎◌, ℕ, List, [], Option, Result, Err, ⊤}
use Rattle.std.specs.Io.KnownBytes.{Appends}
use Rattle.tar_names.specs.declared.fault.TarFault.{TarFault}
use Rattle.tar_names.specs.Fields.{after_spaces, digits_of, field}
use Rattle.tar_names.specs.Member.{BeginsWithKind, BeginsWithSum, block_of, type_of}
use Rattle.program_frame.specs.declared.fault.Failure.{Failure}
use Rattle.list_programs.specs.declared.fault.ListFault.TheVariants.{Rejected, Run}
use Rattle.list_programs.specs.declared.program_fault.Fault.TheVariants.{List as OfList}
use Rattle.names_commands.specs.Program.{Fault}
use Rattle.names_commands.specs.declared.fault.Rejection.TheVariants.{BadArchive}

-- the archive begins with the header of a sparse file, a type of GNU tar
abbrev pub BeginsSparse : List ℕ → Type 0
BeginsSparse archive = BeginsWithSum archive × (type_of (block_of archive) ≡ 0x53)

-- the archive begins with a header of a known type, and there is no digit in its field of the size
abbrev pub LacksSize : List ℕ → Type 0
LacksSize archive = BeginsWithKind archive × (digits_of 8 (after_spaces (field 124 12 (block_of archive))) ≡ [])

-- nothing was written, and the first entry is rejected for this fault, unless the run couldn't go on
abbrev pub RejectsFirst : TarFault → Option (List ℕ) → Option (List ℕ) → Result ⊤ Fault → Type 0
RejectsFirst only old new answer =
    ((why : Failure) × (answer ≡ Err (OfList (Run why))))
    ⊎ ((answer ≡ Err (OfList (Rejected 1 (BadArchive only)))) × Appends old new [])
