-- What the program `names` does where there is one file.
use Rattle.std.specs.Prelude.{◌≡◌, ◌≢◌, ◌⊎◌, ℕ, Bool, true, false, List, [], ◌∷◌, ◌++◌, codes, Option, None, Some, Result, Err, ⊤}
use Rattle.os_ignore.specs.Ignores.{HasText, IsAddedTo}
use Rattle.os_ignore.specs.declared.file.File.{File}
use Rattle.os_quote.specs.Escape.{IsLineEscape}
use Rattle.os_str_bytes.specs.UnixPlatform.TheImpl as unix
use Rattle.program_frame.specs.Files.{KnownFiles}
use Rattle.program_frame.specs.declared.fault.Failure.TheVariants.{Memory}
use Rattle.list_programs.specs.declared.fault.ListFault.TheVariants.{Run}
use Rattle.list_programs.specs.declared.options.ItemEnd.{ItemEnd}
use Rattle.list_programs.specs.declared.options.ItemEnd.TheVariants.{Nul}
use Rattle.list_programs.specs.declared.options.LastItem.TheVariants.{MustEnd, MayLackEnd}
use Rattle.list_programs.specs.declared.options.ListOptions.{ListOptions}
use Rattle.list_programs.specs.declared.program_fault.Fault.TheVariants.{List as OfList, Words}
use Rattle.names_commands.specs.Command.{name_word}
use Rattle.names_commands.specs.Ignoring.{IsFromTop, IsIgnored}
use Rattle.names_commands.specs.Program.{Fault}
use Rattle.names_commands.specs.Why.{IsDecided, place_text}
use Rattle.names_commands.specs.declared.command.Name.{Name}
use Rattle.names_commands.specs.declared.command.Name.TheVariants.{Filter, Why}
use Rattle.names_commands.specs.declared.fault.CommandFault.TheVariants.{NoFile}

-- names ended by NUL, the last too, of at most 1,048,576 bytes: a list where no option states how it is written
abbrev pub usual : ListOptions
usual = record { end = Nul; last = MustEnd; max = 1048576 }

-- items of at most this many bytes, which this byte ends and the last may lack
abbrev pub lacking : ItemEnd → ℕ → ListOptions
lacking end max = record { end = end; last = MayLackEnd; max = max }

-- names of at most this many bytes, ended by NUL, which the last may lack
abbrev pub unended : ℕ → ListOptions
unended max = lacking Nul max

-- there is one file, of this name and with these bytes
abbrev pub only : List ℕ → List ℕ → KnownFiles
only name bytes = record {
  has = λ other content. (other ≡ name) × (content ≡ bytes);
  lacks = λ other. other ≢ name;
  fails = λ other. ⊥;
}

-- the word that disregards case, or none
abbrev pub case_words : Bool → List (List ℕ)
case_words true = codes "-i" ∷ []
case_words false = []

-- the words of this command for names of Unix, with the ignore file of this name, without regard to case or with
abbrev pub asking : Name → Bool → List ℕ → List (List ℕ)
asking command folds file = name_word command ∷ codes "unix" ∷ codes "--ignore" ∷ file ∷ case_words folds

-- the words that filter names by it
abbrev pub filtering : Bool → List ℕ → List (List ℕ)
filtering folds file = asking Filter folds file

-- the words that request the line of it that decides a name
abbrev pub explaining : List ℕ → List (List ℕ)
explaining file = asking Why false file

-- the name is a path from the top. Nothing is written for it if the lines of an ignore file with this content, in which case is folded or matters, ignore it, and else the name and NUL
pub record IsFilteredBy (A : Type 0) (folds : Bool) (content name text : List ℕ) : Type 0 where
  pub from_top : IsFromTop name
  pub files : List (File A)
  pub only : IsAddedTo folds [] content [] files
  pub ignored : IsIgnored files name → text ≡ []
  pub kept : ¬ (IsIgnored files name) → text ≡ name ++ 0 ∷ []

-- where the file of this name decides the name by this line of it, or by none: the text is the line of the file and a tab, with the file's name and the line's text as their escapes. After that comes the escape of the name. Or it is empty
abbrev pub IsReasonOf : {A : Type 0} → List ℕ → List (File A) → List ℕ → List ℕ → Option (ℕ × ℕ) → Type 0
IsReasonOf file files name text None = text ≡ []
IsReasonOf file files name text (Some at) = (pattern : List ℕ) × (shown_file : List ℕ) × (shown : List ℕ) × (escape : List ℕ) × HasText files 0 at.1 pattern × IsLineEscape unix.ghosts.units file shown_file × IsLineEscape unix.ghosts.units pattern shown × IsLineEscape unix.ghosts.units name escape × (at.0 ≡ 0) × (text ≡ place_text shown_file at.1 shown ++ (escape ++ codes "\n"))

-- the name is a path from the top, and this is written for it if an ignore file of this name with this content decides names
pub record IsExplainedBy (A : Type 0) (file content name text : List ℕ) : Type 0 where
  pub from_top : IsFromTop name
  pub files : List (File A)
  pub only : IsAddedTo false [] content [] files
  pub numbers : Option (ℕ × ℕ)
  pub decided : IsDecided files name numbers
  pub reason : IsReasonOf file files name text numbers

-- the program ends with this result and this status: no file has the name of the first ignore file, or memory is refused
abbrev pub IsUnread : Result ⊤ Fault → ℕ → Type 0
IsUnread answer status =
    ((answer ≡ Err (Words (NoFile 1))) × (status ≡ 4))
    ⊎ ((answer ≡ Err (OfList (Run Memory))) × (status ≡ 3))
