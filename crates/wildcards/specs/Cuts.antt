-- What is left of a path between cuts at its separators: only private contracts name this.
use Rattle.std.specs.Prelude.{◌≡◌, ◌+◌, length, ◌++◌, ℕ, true, false, List, [], ◌∷◌, Option, Some, None}
use Rattle.std.specs.List.{All}
use denote.Ref.{Bor}
use Rattle.wildcards.specs.declared.separators.Separators.{Separators}
use Rattle.wildcards.specs.Components.{separates, components}

-- no element of s is a separator
abbrev pub IsPlain : Separators → List ℕ → Type 0
IsPlain o s = All (λ b. separates o b ≡ false) s

-- s is the prefix, a separator and the suffix
pub record IsCut (o : Separators) (s prefix suffix : List ℕ) : Type 0 where
  pub separator : ℕ
  pub joined : s ≡ prefix ++ separator ∷ suffix
  pub parts : separates o separator ≡ true

-- s begins with a component that is the text, and this is left after it
abbrev pub BeginsWith : Separators → List ℕ → List ℕ → Option (Bor (List ℕ)) → Type 0
BeginsWith o s text None = s ≡ text
BeginsWith o s text (Some more) = IsCut o s text more.now

-- s doesn't
pub record BeginsOther (o : Separators) (s text : List ℕ) : Type 0 where
  pub not_whole : ¬ (s ≡ text)
  pub not_cut : (more : List ℕ) → ¬ (IsCut o s text more)

module _ (letters : List ℕ → List ℕ) where
  -- the components of what is left of a path; none where nothing is
  abbrev pub left_components : Separators → Option (Bor (List ℕ)) → List (List ℕ)
  left_components o None = []
  left_components o (Some rest) = components o (letters rest.now)

module _ (formed : List ℕ → Type 0) where
  -- what is left of a path is read as letters
  abbrev pub IsLeftFormed : Option (Bor (List ℕ)) → Type 0
  IsLeftFormed None = Unit {0}
  IsLeftFormed (Some rest) = formed rest.now

-- smaller the less is left
abbrev pub left_size : Option (Bor (List ℕ)) → ℕ
left_size None = 0
left_size (Some rest) = length rest.now + 1
