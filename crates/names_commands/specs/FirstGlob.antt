-- The first of the patterns that matches a name, and what was typed of it.
use Rattle.std.specs.Prelude.{◌≡◌, ◌<◌, ℕ, List, ◌∷◌, ◌++◌, drop, length, Option, None, Some}
use Rattle.os_str_bytes.specs.Platform.{Ghosts}
use Rattle.glob_patterns.specs.Letters.{letters_of}
use Rattle.glob_patterns.specs.Options.{options_of}
use Rattle.glob_patterns.specs.declared.glob_set.GlobSet.{GlobSet}
use Rattle.glob_patterns.specs.declared.options.GlobOptions.{GlobOptions}
use Rattle.glob_text.specs.Marks.{Mark}
use Rattle.glob_text.specs.Meaning.{MatchesWrittenOut}
use Rattle.wildcards.specs.Sets.{IsHit}
use Rattle.names_commands.specs.Matching.{IsMatched, IsMatchedBy}
use Rattle.names_commands.specs.Pick.{added_before}

-- the pattern at the index as it was typed, where the first `plain` patterns come before those of `--name`
pub record IsTypedAt (plain : ℕ) (globs : List (List ℕ)) (index : ℕ) (typed : List ℕ) : Type 0 where
  pub text : List ℕ
  pub after : List (List ℕ)
  pub at : drop index globs ≡ text ∷ after
  pub typed_is : typed ≡ drop (added_before plain index) text

-- on a platform that states this of its strings:
module _ {E : Type 0} (p : Ghosts E) where
  -- of patterns that are written out, the one of this index matches the name, and none before it does
  pub record IsFirstMatch (o : GlobOptions) (written : List (List (List Mark))) (name : List ℕ) (index : ℕ) : Type 0 where
    pub before : List (List (List Mark))
    pub one : List (List Mark)
    pub after : List (List (List Mark))
    pub joined : written ≡ before ++ one ∷ after
    pub index_is : index ≡ length before
    pub matches : MatchesWrittenOut (options_of o) one (letters_of p.units name)
    pub first : ¬ (IsMatched p o before name)

  -- the first that matches the name, by its index, or none does
  abbrev pub IsFirst : GlobOptions → List (List (List Mark)) → List ℕ → Option ℕ → Type 0
  IsFirst o written name None = ¬ (IsMatched p o written name)
  IsFirst o written name (Some index) = IsFirstMatch o written name index

  module _ {A : Type 0} (set : GlobSet E A) (name : List ℕ) where
    -- the same of a compiled set
    pub record IsFirstHit (index : ℕ) : Type 0 where
      pub hit : IsHit set.set.options set.set.patterns.items (letters_of p.units name) index
      pub first : (i : ℕ) → i < index → ¬ (IsHit set.set.options set.set.patterns.items (letters_of p.units name) i)

    abbrev pub IsFirstBy : Option ℕ → Type 0
    IsFirstBy None = ¬ (IsMatchedBy p set name)
    IsFirstBy (Some index) = IsFirstHit index
