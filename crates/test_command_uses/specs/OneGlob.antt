-- What the program `names` does where one pattern is an operand of `why`.
use Rattle.std.specs.Prelude.{◌≡◌, ℕ, false, List, [], ◌∷◌, ◌++◌, codes}
use Rattle.glob_patterns.specs.Letters.{letters_of}
use Rattle.glob_patterns.specs.Options.{options_of, syntax_of}
use Rattle.glob_patterns.specs.declared.options.GlobOptions.{GlobOptions}
use Rattle.glob_text.specs.Marks.{Mark}
use Rattle.glob_text.specs.Meaning.{MatchesWrittenOut}
use Rattle.glob_text.specs.Texts as pattern
use Rattle.os_quote.specs.Escape.{IsLineEscape}
use Rattle.os_str_bytes.specs.UnixPlatform.TheImpl as unix
use Rattle.program_frame.specs.declared.os.Os.TheVariants.{Unix}
use Rattle.names_commands.specs.Command as command
use Rattle.names_commands.specs.Why.{place_text}

-- the words that request which pattern matches a name, where there is one
abbrev pub choosing : List ℕ → List (List ℕ)
choosing glob = codes "why" ∷ codes "unix" ∷ glob ∷ []

-- how it is matched
abbrev pub unix_options : GlobOptions
unix_options = command.options_of Unix false

-- this is written for the name: the pattern with its number, a tab and the name, with pattern and name as their escapes, if it matches, and else nothing
pub record IsChosenBy (glob name text : List ℕ) : Type 0 where
  pub written : List (List Mark)
  pub are : pattern.AreWrittenOut unix.ghosts.well_formed (letters_of unix.ghosts.units) (syntax_of unix_options) glob written
  pub shown : MatchesWrittenOut (options_of unix_options) written (letters_of unix.ghosts.units name) → (shown : List ℕ) × (escape : List ℕ) × IsLineEscape unix.ghosts.units glob shown × (IsLineEscape unix.ghosts.units name escape × (text ≡ place_text (codes "GLOB") 1 shown ++ (escape ++ codes "\n")))
  pub nothing : ¬ (MatchesWrittenOut (options_of unix_options) written (letters_of unix.ghosts.units name)) → text ≡ []
