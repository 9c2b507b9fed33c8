-- The patterns of a set, one for each text.
use Rattle.std.specs.Prelude.{◌≡◌, ℕ, List, [], ◌∷◌, ◌++◌, length}
use Rattle.std.specs.List.{AllByRecursion}
use Rattle.wildcards.specs.declared.pattern.Choice.{Choice}
use Rattle.wildcards.specs.declared.set.Pattern.{Pattern}
use Rattle.glob_text.specs.declared.fault.PatternFault.{PatternFault}
use Rattle.glob_text.specs.declared.syntax.Syntax.{Syntax}
use Rattle.glob_text.specs.Texts.{IsMeaning, IsFault}
use Rattle.glob_patterns.specs.declared.set_error.GlobSetError.{GlobSetError}
use Rattle.glob_patterns.specs.declared.set_error.GlobSetError.TheVariants as error

module _ (formed : List ℕ → Type 0) (letters : List ℕ → List ℕ) (o : Syntax) (A : Type 0) where
  -- the patterns are those of the texts, one by one
  abbrev pub AreMeanings : List (List ℕ) → List (Pattern A) → Type 0
  AreMeanings [] [] = Unit {0}
  AreMeanings [] (p ∷ ps) = ⊥
  AreMeanings (t ∷ ts) [] = ⊥
  AreMeanings (t ∷ ts) (p ∷ ps) = IsMeaning formed letters o t p.choices.items × AreMeanings ts ps

  -- the text has no fault
  abbrev pub HasMeaning : List ℕ → Type 0
  HasMeaning text = (choices : List (Choice A)) × IsMeaning formed letters o text choices

  -- the first text that has a fault, by its index, and the fault
  pub record IsFirstFault (texts : List (List ℕ)) (index : ℕ) (fault : PatternFault) : Type 0 where
    pub before : List (List ℕ)
    pub text : List ℕ
    pub after : List (List ℕ)
    pub joined : texts ≡ before ++ text ∷ after
    pub index_is : index ≡ length before
    pub fine : AllByRecursion HasMeaning before
    pub is : IsFault formed letters o text fault

  -- it, or an allocation that failed
  abbrev pub IsSetError : List (List ℕ) → GlobSetError → Type 0
  IsSetError texts (error.Pattern index fault) = IsFirstFault texts index fault
  IsSetError texts error.Memory = Unit {0}
