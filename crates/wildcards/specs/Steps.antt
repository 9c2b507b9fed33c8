-- How far matching has come: only private contracts name this.
use Rattle.std.specs.Prelude.{◌≡◌, ◌<◌, ◌≤◌, ◌↔◌, ℕ, List, [], ◌∷◌, ◌++◌, length, Option, Some, None}
use Rattle.std.specs.List.{AllByRecursion}
use denote.Ref.{Bor}
use Rattle.wildcards.specs.declared.piece.Piece.{Piece}
use Rattle.wildcards.specs.declared.piece.Piece.TheVariants.{Many}
use Rattle.wildcards.specs.declared.piece.Item.{Item}
use Rattle.wildcards.specs.declared.run.Step.{Step}
use Rattle.wildcards.specs.declared.run.Step.TheVariants as step
use Rattle.wildcards.specs.Reading.{IsFirstLetter}
use Rattle.wildcards.specs.Wild.{Wild}
use Rattle.wildcards.specs.Match.{Fits, TakesLetter}

module _ {X A : Type 0} (Takes : A → Type 0) (FitsOne : X → A → Type 0) where
  -- after the pieces ps and the letters bs comes a wildcard, and after it qs and rest: wherever in the letters ps begins, qs comes no earlier
  pub record GoesOn (ps : List (Piece X)) (bs : List A) (qs : List (Piece X)) (rest : List A) : Type 0 where
    pub enough : Wild Takes FitsOne (Many ∷ qs) rest → Wild Takes FitsOne ps bs
    pub needed : Wild Takes FitsOne (Many ∷ ps) bs → Wild Takes FitsOne (Many ∷ qs) rest
    pub fewer : length qs < length ps

-- the bytes start with this one, unless there are none
abbrev pub StartsWith : ℕ → List ℕ → Type 0
StartsWith byte [] = Unit {0}
StartsWith byte (b ∷ bytes) = b ≡ byte

-- what is before the first of these bytes, and what is left from there on
pub record IsFromByte (byte : ℕ) (text left : List ℕ) : Type 0 where
  pub before : List ℕ
  pub joined : text ≡ before ++ left
  pub none : AllByRecursion (λ b. b ≡ byte → ⊥) before
  pub starts : StartsWith byte left

module _ (formed : List ℕ → Type 0) (letters : List ℕ → List ℕ) where
  -- the first letter of bytes and the bytes after it, None where there is none
  abbrev pub IsLetterStep : List ℕ → Option (ℕ × Bor (List ℕ)) → Type 0
  IsLetterStep bytes None = letters bytes ≡ []
  IsLetterStep bytes (Some first) = IsFirstLetter formed letters bytes first.0 first.1.now

  module _ {A : Type 0} where
    -- what the result of matching up to the first `*` means
    abbrev pub PartStepSays : List (Piece (Item A)) → List ℕ → Step A → Type 0
    PartStepSays ps text step.All = Wild TakesLetter Fits ps (letters text)
    PartStepSays ps text step.Differs = ¬ (Wild TakesLetter Fits ps (letters text))
    PartStepSays ps text (step.Many qs rest) = GoesOn TakesLetter Fits ps (letters text) qs.now (letters rest.now) × ((length rest.now ≤ length text) × formed rest.now)

    -- after a wildcard the pieces match the text where they match what is left of it
    pub record SkipsTo (ps : List (Piece (Item A))) (text left : List ℕ) : Type 0 where
      pub alike : Wild TakesLetter Fits (Many ∷ ps) (letters text) ↔ Wild TakesLetter Fits (Many ∷ ps) (letters left)
      pub formed_left : formed left
      pub no_longer : length left ≤ length text

    -- the last pieces match the last letters, and what is left matches where all do
    pub record AreLastMatched (ps : List (Piece (Item A))) (text : List ℕ) (left : List (Piece (Item A))) (from : List ℕ) : Type 0 where
      pub alike : Wild TakesLetter Fits ps (letters text) ↔ Wild TakesLetter Fits left (letters from)
      pub formed_left : formed from
