-- The patterns that files have.
use Rattle.std.specs.Prelude.{◌≡◌, ◌⊎◌, ◌+◌, ℕ, nat_eq, cond, List, [], ◌∷◌, ◌++◌, map}
use Rattle.std.specs.List.{AllByRecursion}
use Rattle.os_ignore.specs.Components.{pieces}
use Rattle.os_str_bytes.specs.EncodingError.{EncodingError}
use Rattle.os_str_bytes.specs.Platform.{Ghosts}
use Rattle.list_programs.specs.Items.{Lacks}
use Rattle.program_frame.specs.Files.{KnownFiles}
use Rattle.names_commands.specs.declared.fault.CommandFault.{CommandFault}
use Rattle.names_commands.specs.declared.fault.CommandFault.TheVariants.{NoPatternFile, UnreadPatternFile}
use Rattle.names_commands.specs.declared.pattern_files.FilePattern.{FilePattern}

-- a pattern of a file: the number of the file and that of the line, both from 1, and its text
pub record PatternLine : Type 0 where
  pub file : ℕ
  pub line : ℕ
  pub text : List ℕ

abbrev pub text_of : PatternLine → List ℕ
text_of pattern = pattern.text

-- what a pattern that was read states
abbrev pub pattern_line : {A : Type 0} → FilePattern A → PatternLine
pattern_line pattern = record { file = pattern.file; line = pattern.line; text = pattern.text.items }

-- the byte that ends each line of a file: NUL if the file has one, and else a newline
abbrev pub IsLineEnd : List ℕ → ℕ → Type 0
IsLineEnd content end = ((end ≡ 0) × (¬ (Lacks 0 content))) ⊎ ((end ≡ 0x0A) × Lacks 0 content)

-- the line without the carriage return at its end, if it has one
abbrev pub without_return : List ℕ → List ℕ
without_return [] = []
without_return (b ∷ []) = cond (nat_eq b 0x0D) [] (b ∷ [])
without_return (b ∷ c ∷ line) = b ∷ without_return (c ∷ line)

-- the text of a line that this byte ends: before a newline a carriage return may come
abbrev pub line_text : ℕ → List ℕ → List ℕ
line_text end line = cond (nat_eq end 0) line (without_return line)

-- those of the texts that aren't empty, as patterns of the file with this number, where the first has this number
abbrev pub numbered : ℕ → ℕ → List (List ℕ) → List PatternLine
numbered file line [] = []
numbered file line ([] ∷ texts) = numbered file (line + 1) texts
numbered file line ((b ∷ text) ∷ texts) = record { file = file; line = line; text = b ∷ text } ∷ numbered file (line + 1) texts

-- the patterns of the file with this number and this content: its lines that aren't empty
abbrev pub ArePatternsIn : ℕ → List ℕ → List PatternLine → Type 0
ArePatternsIn file content patterns = (end : ℕ) × (IsLineEnd content end × (patterns ≡ numbered file 1 (map (line_text end) (pieces end content))))

-- where this is known of files:
module _ (known : KnownFiles) where
  -- the patterns of the files of these names, the first of which has this number
  abbrev pub ArePatternsOf : ℕ → List (List ℕ) → List PatternLine → Type 0
  ArePatternsOf number [] patterns = patterns ≡ []
  ArePatternsOf number (name ∷ names) patterns = (content : List ℕ) × (own : List PatternLine) × (more : List PatternLine) × (known.has name content × (ArePatternsIn number content own × (ArePatternsOf (number + 1) names more × (patterns ≡ own ++ more))))

  -- why a file of this name and number can't be read
  abbrev pub IsUnreadOne : ℕ → List ℕ → CommandFault → Type 0
  IsUnreadOne number name why = ((why ≡ NoPatternFile number) × known.lacks name) ⊎ ((why ≡ UnreadPatternFile number) × known.fails name)

  -- why the first of the files that can't be read can't, where those before it were read
  abbrev pub IsUnreadOf : ℕ → List (List ℕ) → CommandFault → Type 0
  IsUnreadOf number [] why = ⊥
  IsUnreadOf number (name ∷ names) why = IsUnreadOne number name why ⊎ ((content : List ℕ) × (known.has name content × IsUnreadOf (number + 1) names why))

-- the first of the patterns that isn't a string of the platform, and its first fault
pub record IsFirstNoString {E : Type 0} (p : Ghosts E) (patterns : List PatternLine) (pattern : PatternLine) (error : EncodingError) : Type 0 where
  pub before : List PatternLine
  pub after : List PatternLine
  pub joined : patterns ≡ before ++ pattern ∷ after
  pub formed : AllByRecursion (λ other. p.well_formed other.text) before
  pub fault : p.first_fault pattern.text error
