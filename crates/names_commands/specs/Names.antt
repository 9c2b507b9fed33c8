-- Names as items of a list, and why an item or a line isn't one. No file's name has a NUL (POSIX, "Definitions", Pathname).
use Rattle.std.specs.Prelude.{◌≡◌, ◌⊎◌, ℕ, Bool, true, List, [], ◌∷◌, ◌++◌}
use Rattle.os_str_bytes.specs.Platform.{Ghosts}
use Rattle.list_programs.specs.Items.{Lacks}
use Rattle.list_programs.specs.ListOptions.{byte_of}
use Rattle.list_programs.specs.declared.fault.ItemFault.{ItemFault}
use Rattle.list_programs.specs.declared.fault.ItemFault.TheVariants as item_fault
use Rattle.list_programs.specs.declared.options.ItemEnd.{ItemEnd}
use Rattle.list_programs.specs.declared.options.ItemEnd.TheVariants.{Newline}
use Rattle.names_commands.specs.declared.fault.Rejection.{Rejection}
use Rattle.names_commands.specs.declared.fault.Rejection.TheVariants.{NoString, BadEscape, NotCanonical, HasNul, HasNewline, EndsInReturn as InReturn, EmptyLine, BadWords, BadArchive, NotFromTop}
use Rattle.names_commands.specs.Ignoring.{IsFromTop}

-- a name that can be written with this end: it has neither a NUL nor that end
pub record IsFit (end : ItemEnd) (name : List ℕ) : Type 0 where
  pub whole : Lacks 0 name
  pub one : Lacks (byte_of end) name

-- why a name can't be written with this end
abbrev pub IsUnfit : ItemEnd → List ℕ → Rejection → Type 0
IsUnfit end name (NoString error) = ⊥
IsUnfit end name (BadEscape index) = ⊥
IsUnfit end name NotCanonical = ⊥
IsUnfit end name HasNul = ¬ (Lacks 0 name)
IsUnfit end name HasNewline = (end ≡ Newline) × (¬ (Lacks 0x0A name))
IsUnfit end name InReturn = ⊥
IsUnfit end name EmptyLine = ⊥
IsUnfit end name (BadWords fault) = ⊥
IsUnfit end name (BadArchive fault) = ⊥
IsUnfit end name NotFromTop = ⊥

-- the line's last byte is a carriage return
abbrev pub EndsInReturn : List ℕ → Type 0
EndsInReturn line = (front : List ℕ) × (line ≡ front ++ 0x0D ∷ [])

-- on a platform that states this of its strings:
module _ {E : Type 0} (p : Ghosts E) where
  -- why an item isn't a name: it isn't a string, or it has a NUL
  abbrev pub IsNameRejection : List ℕ → Rejection → Type 0
  IsNameRejection name (NoString error) = p.first_fault name error
  IsNameRejection name (BadEscape index) = ⊥
  IsNameRejection name NotCanonical = ⊥
  IsNameRejection name HasNul = ¬ (Lacks 0 name)
  IsNameRejection name HasNewline = ⊥
  IsNameRejection name InReturn = ⊥
  IsNameRejection name EmptyLine = ⊥
  IsNameRejection name (BadWords fault) = ⊥
  IsNameRejection name (BadArchive fault) = ⊥
  IsNameRejection name NotFromTop = ⊥

  -- why an item isn't a name of a list: that, or it isn't a path from the top, if it has to be one
  abbrev pub IsListRejection : Bool → List ℕ → Rejection → Type 0
  IsListRejection from_top name why = IsNameRejection name why ⊎ ((why ≡ NotFromTop) × ((from_top ≡ true) × (¬ (IsFromTop name))))

  -- why nothing is written for it: that, or an allocation failed
  abbrev pub IsNoName : Bool → List ℕ → ItemFault Rejection → Type 0
  IsNoName from_top name (item_fault.Rejected why) = IsListRejection from_top name why
  IsNoName from_top name item_fault.TooLong = ⊥
  IsNoName from_top name item_fault.Memory = Unit {0}
