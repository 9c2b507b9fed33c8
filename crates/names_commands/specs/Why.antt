-- The lines of ignore files that decide names, the patterns that pick them, and what is written of both.
use Rattle.std.specs.Prelude.{◌≡◌, ℕ, ◌+◌, ◌<◌, Bool, List, [], ◌∷◌, ◌++◌, drop, Option, None, Some, codes, decimal}
use Rattle.os_ignore.specs.Ignores.{HasNoText, HasText}
use Rattle.os_ignore.specs.Verdicts.{IsVerdict}
use Rattle.os_ignore.specs.declared.file.File.{File}
use Rattle.os_ignore.specs.declared.verdict.Verdict.{Verdict}
use Rattle.os_ignore.specs.declared.verdict.Verdict.TheVariants.{Neither, Ignored, TakenIn}
use Rattle.os_quote.specs.Escape.{IsLineEscape}
use Rattle.os_str_bytes.specs.Platform.{Ghosts}
use Rattle.os_str_bytes.specs.UnixPlatform.TheImpl as unix
use Rattle.list_programs.specs.Items.{Lacks}
use Rattle.list_programs.specs.ListOptions.{MayLack, byte_of}
use Rattle.list_programs.specs.Rules.{ListRules}
use Rattle.list_programs.specs.declared.options.ListOptions.{ListOptions}
use Rattle.names_commands.specs.FirstGlob.{IsTypedAt}
use Rattle.names_commands.specs.Ignoring.{IsFileIn, IsInTree, IsPath, needs_tree, without_dot}
use Rattle.names_commands.specs.Names.{IsListRejection}
use Rattle.names_commands.specs.declared.fault.Rejection.{Rejection}

-- the file and the line of a verdict, by their numbers
abbrev pub numbers_of : Verdict → Option (ℕ × ℕ)
numbers_of Neither = None
numbers_of (Ignored file line) = Some (file, line)
numbers_of (TakenIn file line) = Some (file, line)

-- the name of the file that the value at this index states
pub record IsNameAt (values : List (List ℕ)) (index : ℕ) (name : List ℕ) : Type 0 where
  pub value : List ℕ
  pub after : List (List ℕ)
  pub at : drop index values ≡ value ∷ after
  pub directory : List ℕ
  pub states : IsFileIn value directory name

-- what the texts of reasons are taken of: the values of `--ignore`, and the patterns, of which the first `plain` come before those of `--name`
pub record Sources : Type 0 where
  pub values : List (List ℕ)
  pub plain : ℕ
  pub globs : List (List ℕ)

abbrev pub sources : List (List ℕ) → ℕ → List (List ℕ) → Sources
sources values plain globs = record { values = values; plain = plain; globs = globs }

-- a line of a file: the escape of the file's name, a colon, the number of the line, a colon, the escape of its text, and a tab
abbrev pub place_text : List ℕ → ℕ → List ℕ → List ℕ
place_text file line pattern = (file ++ 0x3A ∷ []) ++ ((decimal line ++ 0x3A ∷ []) ++ (pattern ++ 0x09 ∷ []))

module _ {A : Type 0} where
  -- the file and the line that decide the name, by their numbers, or none does
  pub record IsDecided (files : List (File A)) (name : List ℕ) (numbers : Option (ℕ × ℕ)) : Type 0 where
    pub path : List ℕ
    pub is_dir : Bool
    pub path_is : IsPath (without_dot name) path is_dir
    pub verdict : Verdict
    pub verdict_is : IsVerdict files path is_dir verdict
    pub numbers_are : numbers ≡ numbers_of verdict

  -- a line that decides a name is in a file whose number is below the count, and that file has a line of its number
  abbrev pub LinesAreKnown : ℕ → List (File A) → Type 0
  LinesAreKnown count files = (name : List ℕ) (file line : ℕ) → IsDecided files name (Some (file, line)) → (file < count) × (HasNoText files file line → ⊥)

-- on a platform that states this of its strings:
module _ {E : Type 0} (p : Ghosts E) where
  -- the text is the pattern of this index: `GLOB` in the place of a file's name, its number, counted from 1, and the escape of what was typed. After these comes the escape of the name on the same line
  pub record IsGlobReason (plain : ℕ) (globs : List (List ℕ)) (name : List ℕ) (index : ℕ) (text : List ℕ) : Type 0 where
    pub typed : List ℕ
    pub typed_is : IsTypedAt plain globs index typed
    pub typed_escape : List ℕ
    pub typed_shown : IsLineEscape unix.ghosts.units typed typed_escape
    pub escape : List ℕ
    pub escape_is : IsLineEscape p.units name escape
    pub text_is : text ≡ place_text (codes "GLOB") (index + 1) typed_escape ++ (escape ++ 0x0A ∷ [])

  -- that text, or nothing where no pattern matches the name
  abbrev pub IsTextOfFirst : ℕ → List (List ℕ) → List ℕ → Option ℕ → List ℕ → Type 0
  IsTextOfFirst plain globs name None text = text ≡ []
  IsTextOfFirst plain globs name (Some index) text = IsGlobReason plain globs name index text

module _ {E : Type 0} (p : Ghosts E) {A : Type 0} where
  -- the text is the line of the file, each by its number, as the escapes of the bytes of both, and the escape of the name on the same line. So the first tab comes after the line
  pub record IsReason (values : List (List ℕ)) (files : List (File A)) (name : List ℕ) (file line : ℕ) (text : List ℕ) : Type 0 where
    pub file_name : List ℕ
    pub file_is : IsNameAt values file file_name
    pub file_escape : List ℕ
    pub file_shown : IsLineEscape unix.ghosts.units file_name file_escape
    pub pattern : List ℕ
    pub pattern_is : HasText files file line pattern
    pub pattern_escape : List ℕ
    pub pattern_shown : IsLineEscape unix.ghosts.units pattern pattern_escape
    pub escape : List ℕ
    pub escape_is : IsLineEscape p.units name escape
    pub text_is : text ≡ place_text file_escape line pattern_escape ++ (escape ++ 0x0A ∷ [])

  -- where this states the first pattern that matches a name, by its index, or that none does:
  module _ (First : List ℕ → Option ℕ → Type 0) where
    -- the text of the line that decides the name, or where none does, that of the first pattern that matches it
    abbrev pub IsTextOfNumbers : Sources → List (File A) → List ℕ → Option (ℕ × ℕ) → List ℕ → Type 0
    IsTextOfNumbers from files name None text = (first : Option ℕ) × (First name first × IsTextOfFirst p from.plain from.globs name first text)
    IsTextOfNumbers from files name (Some at) text = IsReason from.values files name at.0 at.1 text

    -- what decides the name, and its escape
    pub record IsDecidedText (from : Sources) (files : List (File A)) (name text : List ℕ) : Type 0 where
      pub numbers : Option (ℕ × ℕ)
      pub decided : IsDecided files name numbers
      pub text_is : IsTextOfNumbers from files name numbers text

    -- this is written for a name
    abbrev pub IsTextOfDecided : Sources → List (File A) → List ℕ → List ℕ → Type 0
    IsTextOfDecided from files name text = p.well_formed name × (Lacks 0 name × (IsInTree (needs_tree from.values) name × IsDecidedText from files name text))

    -- what is done with each name of a list that is written so, where lines of ignore files decide names, or patterns match them
    abbrev pub deciding : ListOptions → Sources → List (File A) → ListRules Rejection
    deciding list from files = record {
      end = byte_of list.end;
      takes_unended = MayLack list.last;
      max = list.max;
      longest = list.max;
      is_text = IsTextOfDecided from files;
      rejects = IsListRejection p (needs_tree from.values);
      is_of_long = λ name. ⊥;
    }
