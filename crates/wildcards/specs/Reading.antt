-- How bytes are read as letters.
use Rattle.std.specs.Prelude.{◌≡◌, ◌<◌, ℕ, List, ◌∷◌, ◌++◌, length}
use Rattle.std.specs.List.{AllByRecursion}

-- the bytes begin with this letter, and the rest has the other letters
pub record IsFirstLetter (formed : List ℕ → Type 0) (letters : List ℕ → List ℕ) (bytes : List ℕ) (letter : ℕ) (rest : List ℕ) : Type 0 where
  pub letters_are : letters bytes ≡ letter ∷ letters rest
  pub formed_after : formed rest
  pub shorter : length rest < length bytes

-- the list is cut at this element, where the letters on either side are these
pub record IsFoundAt (letters : List ℕ → List ℕ) (bytes : List ℕ) (element : ℕ) (before after : List ℕ) : Type 0 where
  pub prefix : List ℕ
  pub suffix : List ℕ
  pub joined : bytes ≡ prefix ++ element ∷ suffix
  pub letters_before : letters prefix ≡ before
  pub letters_after : letters suffix ≡ after

-- the laws of a reader. ASCII is its own letters. No two byte lists have the same letters. Around a byte of ASCII the letters are those of both sides, and from that byte on the bytes are read. Where a letter is ASCII, so is a byte.
pub record LetterLaws (formed : List ℕ → Type 0) (letters : List ℕ → List ℕ) : Type 0 where
  pub ascii : (s : List ℕ) → AllByRecursion (λ b. b < 0x80) s → formed s × (letters s ≡ s)
  pub once : (s t : List ℕ) → formed s → formed t → letters s ≡ letters t → s ≡ t
  pub cut : (s t : List ℕ) (b : ℕ) → b < 0x80 → formed (s ++ b ∷ t) → formed s × (formed t × (letters (s ++ b ∷ t) ≡ letters s ++ b ∷ letters t))
  pub from : (s t : List ℕ) (b : ℕ) → b < 0x80 → formed (s ++ b ∷ t) → formed (b ∷ t)
  pub found : (s us vs : List ℕ) (b : ℕ) → b < 0x80 → formed s → letters s ≡ us ++ b ∷ vs → IsFoundAt letters s b us vs
