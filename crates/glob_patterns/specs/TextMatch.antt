-- Which paths the texts of patterns match.
use Rattle.std.specs.Prelude.{◌≡◌, ◌↔◌, ℕ, zero, suc, Bool, List, [], ◌∷◌, IsTrue}
use Rattle.wildcards.specs.declared.options.Options.{Options}
use Rattle.wildcards.specs.declared.pattern.Choice.{Choice}
use Rattle.wildcards.specs.declared.set.Pattern.{Pattern}
use Rattle.wildcards.specs.Sets.{Has}
use Rattle.glob_text.specs.Meaning.{MatchesWrittenOut}
use Rattle.glob_text.specs.Texts.{IsMeaning}
use Rattle.glob_patterns.specs.declared.options.GlobOptions.{GlobOptions}
use Rattle.glob_patterns.specs.GlobSets.{AreMeanings}
use Rattle.glob_patterns.specs.Options.{options_of, syntax_of}

module _ (formed : List ℕ → Type 0) (letters : List ℕ → List ℕ) {A : Type 0} where
  -- whatever text the choices are compiled of: one of the patterns that it is written out as matches the letters of a path
  abbrev pub IsMatchOfText : GlobOptions → List (Choice A) → List ℕ → Bool → Type 0
  IsMatchOfText o choices path result =
      (text : List ℕ) (meaning : IsMeaning formed letters (syntax_of o) text choices) → IsTrue result ↔ MatchesWrittenOut (options_of o) meaning.are.are.written_out path

  -- one of the patterns that the text of this index is written out as matches the letters of a path
  abbrev pub IsTextHit : (o : GlobOptions) (texts : List (List ℕ)) (patterns : List (Pattern A)) → AreMeanings formed letters (syntax_of o) A texts patterns → List ℕ → ℕ → Type 0
  IsTextHit o [] [] meanings path i = ⊥
  IsTextHit o [] (p ∷ ps) meanings path i = ⊥
  IsTextHit o (t ∷ ts) [] meanings path i = ⊥
  IsTextHit o (t ∷ ts) (p ∷ ps) meanings path zero = MatchesWrittenOut (options_of o) meanings.0.are.are.written_out path
  IsTextHit o (t ∷ ts) (p ∷ ps) meanings path (suc i) = IsTextHit o ts ps meanings.1 path i

  -- whatever texts the patterns are compiled of: one of these matches
  abbrev pub IsMatchOfTexts : Options → List (Pattern A) → List ℕ → Bool → Type 0
  IsMatchOfTexts matching patterns path result =
      (o : GlobOptions) (texts : List (List ℕ)) (meanings : AreMeanings formed letters (syntax_of o) A texts patterns) → matching ≡ options_of o
      → IsTrue result ↔ ((i : ℕ) × IsTextHit o texts patterns meanings path i)

  -- whatever texts the patterns are compiled of: these are the indices of those that match
  abbrev pub AreMatchesOfTexts : Options → List (Pattern A) → List ℕ → List ℕ → Type 0
  AreMatchesOfTexts matching patterns path found =
      (o : GlobOptions) (texts : List (List ℕ)) (meanings : AreMeanings formed letters (syntax_of o) A texts patterns) → matching ≡ options_of o
      → (i : ℕ) → Has found i ↔ IsTextHit o texts patterns meanings path i
