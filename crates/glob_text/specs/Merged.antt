-- Alternatives of letters, merged into classes: only private contracts name this.
use Rattle.std.specs.Prelude.{◌≡◌, ◌⊎◌, ℕ, Bool, true, false, not, nat_eq, ◌&&◌, List, [], ◌∷◌, ◌++◌}
use Rattle.wildcards.specs.declared.range.Range.{Range}
use Rattle.wildcards.specs.declared.separators.Separators.{Separators}
use Rattle.wildcards.specs.ClassName.{range}
use Rattle.wildcards.specs.Components.{separates}
use Rattle.wildcards.specs.Items.{Reads}
use Rattle.glob_text.specs.Marks.{Mark, literal, any, star, one_of, opens, comma, closes}

-- a class may have the letters of the mark in its place: it is no separator, and no dot, which matches a leading dot as no class does
abbrev pub is_letter : Separators → Mark → Bool
is_letter o (literal letter) = not (separates o letter) && not (nat_eq letter 0x2E)
is_letter o any = false
is_letter o (star again) = false
is_letter o (one_of negated ranges) = not negated
is_letter o (opens index) = false
is_letter o comma = false
is_letter o (closes index) = false

-- the letters of such a mark
abbrev pub letters_of : Mark → List Range
letters_of (literal letter) = range letter letter ∷ []
letters_of any = []
letters_of (star again) = []
letters_of (one_of negated ranges) = ranges
letters_of (opens index) = []
letters_of comma = []
letters_of (closes index) = []

module _ (o : Separators) where
  -- the marks begin with such marks, commas between them, and a `}`: their letters, and what comes after
  pub data AreLetters : List Mark → List Range → List Mark → Type 0 where
    last : (m : Mark) (j : ℕ) (rest : List Mark) → is_letter o m ≡ true → AreLetters (m ∷ closes j ∷ rest) (letters_of m) rest
    more : {ms : List Mark} {ranges : List Range} {rest : List Mark} (m : Mark) → is_letter o m ≡ true → AreLetters ms ranges rest → AreLetters (m ∷ comma ∷ ms) (letters_of m ++ ranges) rest

  -- the marks begin with the mark, or with alternatives that it has the letters of
  abbrev pub IsMergedMark : List Mark → Mark → List Mark → Type 0
  IsMergedMark [] mark rest = ⊥
  IsMergedMark (m ∷ ms) mark rest =
      ((mark ≡ m) × (rest ≡ ms))
      ⊎ ((index : ℕ) × (ranges : List Range) × (m ≡ opens index) × (mark ≡ one_of false ranges) × AreLetters ms ranges rest)

  -- the marks, with a class for alternatives of letters
  abbrev pub AreMerged : List Mark → List Mark → Type 0
  AreMerged marks merged = Reads IsMergedMark marks merged []
