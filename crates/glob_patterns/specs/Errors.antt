-- Why no pattern is made.
use Rattle.std.specs.Prelude.{ℕ, List}
use Rattle.glob_text.specs.Texts.{IsFault}
use Rattle.glob_patterns.specs.declared.error.GlobError.{GlobError}
use Rattle.glob_patterns.specs.declared.error.GlobError.TheVariants.{Pattern, Memory}
use Rattle.glob_patterns.specs.declared.options.GlobOptions.{GlobOptions}
use Rattle.glob_patterns.specs.Letters.{letters_of}
use Rattle.glob_patterns.specs.Options.{syntax_of}

module _ (formed : List ℕ → Type 0) (units : List ℕ → List ℕ) (o : GlobOptions) (text : List ℕ) where
  -- the first fault of the text, or an allocation that failed
  abbrev pub IsGlobError : GlobError → Type 0
  IsGlobError (Pattern fault) = IsFault formed (letters_of units) (syntax_of o) text fault
  IsGlobError Memory = Unit {0}
