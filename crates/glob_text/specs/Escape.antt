-- How letters are written in the text of a pattern so that each is itself.
use Rattle.std.specs.Prelude.{◌≡◌, ◌↔◌, ℕ, Bool, true, false, cond, List, [], ◌∷◌}
use Rattle.std.specs.List.{flat_map, AllByRecursion}
use Rattle.wildcards.specs.declared.separators.Separators.{Separators}
use Rattle.wildcards.specs.declared.separators.Separators.TheVariants.{None, Slash, SlashAndBackslash}
use Rattle.wildcards.specs.Components.{components, separates}
use Rattle.glob_text.specs.declared.fault.PatternFault.{PatternFault}
use Rattle.glob_text.specs.declared.mark.Kind.{Kind}
use Rattle.glob_text.specs.declared.mark.Kind.TheVariants.{Quote, Star, Question, Bracket, Open, Comma, Close, Literal}
use Rattle.glob_text.specs.declared.syntax.Syntax.{Syntax}
use Rattle.glob_text.specs.Marks.{Mark, kind_of}
use Rattle.glob_text.specs.Meaning.{MatchesWrittenOut}
use Rattle.glob_text.specs.Texts.{IsFault, AreWrittenOut}

-- a letter of this kind matches itself
abbrev pub is_literal : Kind → Bool
is_literal Quote = false
is_literal Star = false
is_literal Question = false
is_literal Bracket = false
is_literal Open = false
is_literal Comma = false
is_literal Close = false
is_literal Literal = true

-- the letter after a backslash, if that quotes, or else in a class
abbrev pub quoted : Bool → ℕ → List ℕ
quoted true letter = 0x5C ∷ letter ∷ []
quoted false letter = 0x5B ∷ letter ∷ 0x5D ∷ []

-- the letter, quoted unless it matches itself
abbrev pub escaped_letter : Bool → ℕ → List ℕ
escaped_letter quoting letter = cond (is_literal (kind_of quoting letter)) (letter ∷ []) (quoted quoting letter)

-- so each letter
abbrev pub escaped : Bool → List ℕ → List ℕ
escaped quoting letters = flat_map (escaped_letter quoting) letters

-- no other path has its components: it has no separator, or only one letter separates
abbrev pub HasOneSpelling : Separators → List ℕ → Type 0
HasOneSpelling None path = Unit {0}
HasOneSpelling Slash path = Unit {0}
HasOneSpelling SlashAndBackslash path = AllByRecursion (λ l. separates SlashAndBackslash l ≡ false) path

module _ (formed : List ℕ → Type 0) (letters : List ℕ → List ℕ) (o : Syntax) (text : List ℕ) where
  -- The text is a pattern without a fault.
  -- Where case matters, it matches exactly the paths whose components are those of these letters, and so these letters alone if they have one spelling.
  pub record IsPatternOf (own : List ℕ) : Type 0 where
    pub no_fault : (fault : PatternFault) → ¬ (IsFault formed letters o text fault)
    pub same : o.case_insensitive ≡ false → (dot : Bool) (written : List (List Mark)) (path : List ℕ) → AreWrittenOut formed letters o text written
        → MatchesWrittenOut (record { separators = o.separators; literal_leading_dot = dot }) written path ↔ (components o.separators path ≡ components o.separators own)
    pub alone : o.case_insensitive ≡ false → HasOneSpelling o.separators own → (dot : Bool) (written : List (List Mark)) (path : List ℕ) → AreWrittenOut formed letters o text written
        → MatchesWrittenOut (record { separators = o.separators; literal_leading_dot = dot }) written path ↔ (path ≡ own)
