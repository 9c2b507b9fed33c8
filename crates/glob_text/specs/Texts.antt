-- What the text of a pattern means.
use Rattle.std.specs.Prelude.{◌≡◌, ◌⊎◌, ◌↔◌, ℕ, List}
use Rattle.wildcards.specs.declared.options.Options.{Options}
use Rattle.wildcards.specs.declared.pattern.Choice.{Choice}
use Rattle.wildcards.specs.declared.separators.Separators.{Separators}
use Rattle.wildcards.specs.Sets.{MatchesChoice}
use Rattle.glob_text.specs.declared.fault.PatternFault.{PatternFault}
use Rattle.glob_text.specs.declared.fault.FaultKind.TheVariants.{TooManyChoices}
use Rattle.glob_text.specs.declared.symbol.Symbol.{Symbol}
use Rattle.glob_text.specs.declared.syntax.Syntax.{Syntax}
use Rattle.glob_text.specs.Alternatives.{AreChoices, AreTooMany, AreWithinLimits}
use Rattle.glob_text.specs.Braces.{IsBraceFault}
use Rattle.glob_text.specs.Folded.{AreCased}
use Rattle.glob_text.specs.Marks.{Mark, AreMarks, IsMarkFault}
use Rattle.glob_text.specs.Meaning.{MatchesWrittenOut}
use Rattle.glob_text.specs.Symbols.{AreSymbols}

-- marks are written out as more than they may be
pub record IsTooManyFault (marks : List Mark) (fault : PatternFault) : Type 0 where
  pub are : AreTooMany marks
  pub fault_is : fault ≡ record { kind = TooManyChoices; index = 0 }

-- the fault of marks: a brace, or too many choices
abbrev pub IsChoiceFault : List Mark → PatternFault → Type 0
IsChoiceFault marks fault = IsBraceFault marks fault ⊎ IsTooManyFault marks fault

-- the marks of symbols are at fault
pub record IsMarksFault (o : Syntax) (symbols : List Symbol) (fault : PatternFault) : Type 0 where
  pub marks : List Mark
  pub read : AreMarks o symbols marks
  pub cased : List Mark
  pub are_cased : AreCased o.case_insensitive marks cased
  pub fault_is : IsChoiceFault cased fault

-- the fault of symbols: of a mark, or of all marks
abbrev pub IsSymbolsFault : Syntax → List Symbol → PatternFault → Type 0
IsSymbolsFault o symbols fault = IsMarkFault o symbols fault ⊎ IsMarksFault o symbols fault

module _ {A : Type 0} where
  -- the compiled form of marks: it matches what the patterns that they are written out as match
  pub record AreChoicesOf (o : Separators) (marks : List Mark) (choices : List (Choice A)) : Type 0 where
    pub written_out : List (List Mark)
    pub are : AreChoices marks written_out
    pub limits : AreWithinLimits written_out
    pub matched : (p : Options) → p.separators ≡ o → (path : List ℕ) → MatchesChoice p choices path ↔ MatchesWrittenOut p written_out path

  -- that of symbols
  pub record AreOfSymbols (o : Syntax) (symbols : List Symbol) (choices : List (Choice A)) : Type 0 where
    pub marks : List Mark
    pub read : AreMarks o symbols marks
    pub cased : List Mark
    pub are_cased : AreCased o.case_insensitive marks cased
    pub are : AreChoicesOf o.separators cased choices

module _ (formed : List ℕ → Type 0) (letters : List ℕ → List ℕ) (o : Syntax) (text : List ℕ) where
  -- the compiled form of the text
  pub record IsMeaning {A : Type 0} (choices : List (Choice A)) : Type 0 where
    pub symbols : List Symbol
    pub read : AreSymbols formed letters text symbols
    pub are : AreOfSymbols o symbols choices

  -- the first fault of the text
  pub record IsFault (fault : PatternFault) : Type 0 where
    pub symbols : List Symbol
    pub read : AreSymbols formed letters text symbols
    pub is : IsSymbolsFault o symbols fault

  -- the patterns without alternatives that the text is written out as
  pub record AreWrittenOut (written : List (List Mark)) : Type 0 where
    pub symbols : List Symbol
    pub read : AreSymbols formed letters text symbols
    pub marks : List Mark
    pub marks_are : AreMarks o symbols marks
    pub cased : List Mark
    pub are_cased : AreCased o.case_insensitive marks cased
    pub are : AreChoices cased written
