-- What the program `names` does where a file of patterns has one.
use Rattle.std.specs.Prelude.{◌≡◌, ◌≢◌, ℕ, List, [], ◌∷◌, ◌++◌, codes}
use Rattle.glob_patterns.specs.Letters.{letters_of}
use Rattle.glob_patterns.specs.Options.{options_of, syntax_of}
use Rattle.glob_text.specs.Marks.{Mark}
use Rattle.glob_text.specs.Meaning.{MatchesWrittenOut}
use Rattle.glob_text.specs.Texts as pattern
use Rattle.list_programs.specs.Items.{Lacks}
use Rattle.os_str_bytes.specs.UnixPlatform.TheImpl as unix
use Rattle.test_command_uses.specs.OneGlob.{unix_options}

-- the words that filter names of Unix by the patterns of the file of this name
abbrev pub filtering_from : List ℕ → List (List ℕ)
filtering_from file = codes "filter" ∷ codes "unix" ∷ codes "--globs-from" ∷ file ∷ []

-- a text that a file of patterns can have as a line: it isn't empty, and has no byte that ends lines and no carriage return
abbrev pub IsOneLine : List ℕ → Type 0
IsOneLine text = (text ≢ []) × (Lacks 0 text × (Lacks 0x0A text × Lacks 0x0D text))

-- this is written for the name: the name and NUL, if the pattern matches it, and else nothing
pub record IsKeptBy (glob name text : List ℕ) : Type 0 where
  pub written : List (List Mark)
  pub are : pattern.AreWrittenOut unix.ghosts.well_formed (letters_of unix.ghosts.units) (syntax_of unix_options) glob written
  pub kept : MatchesWrittenOut (options_of unix_options) written (letters_of unix.ghosts.units name) → text ≡ name ++ 0 ∷ []
  pub nothing : ¬ (MatchesWrittenOut (options_of unix_options) written (letters_of unix.ghosts.units name)) → text ≡ []
