-- Letters without case: those with one simple case folding are alike (The Unicode Standard, 3.13).
use Rattle.std.specs.Prelude.{◌≡◌, ◌⊎◌, ℕ, Bool, true, false, List, [], ◌∷◌}
use Rattle.wildcards.specs.declared.range.Range.{Range}
use Rattle.wildcards.specs.Ranges.{is_in}
use Rattle.ucd_case.specs.CaseFolding.{simple_fold}
use Rattle.glob_text.specs.Marks.{Mark, literal, any, star, one_of, opens, comma, closes}
use Rattle.wildcards.specs.ClassName.{range}

-- a letter of the ranges is alike
abbrev pub HasAlike : List Range → ℕ → Type 0
HasAlike ranges letter = (member : ℕ) × ((is_in ranges member ≡ true) × (simple_fold member ≡ simple_fold letter))

-- the letters that are alike one of the ranges
pub record AreFolded (ranges folded : List Range) : Type 0 where
  pub sound : (letter : ℕ) → is_in folded letter ≡ true → HasAlike ranges letter
  pub complete : (letter : ℕ) → HasAlike ranges letter → is_in folded letter ≡ true

-- no other letter is alike
abbrev pub IsAlone : ℕ → Type 0
IsAlone letter = (other : ℕ) → simple_fold letter ≡ simple_fold other → letter ≡ other

-- a letter alone is itself, and any other a class of those that are alike
abbrev pub IsFoldedLetter : ℕ → Mark → Type 0
IsFoldedLetter letter mark =
    (IsAlone letter × (mark ≡ literal letter))
    ⊎ ((¬ (IsAlone letter)) × ((folded : List Range) × ((mark ≡ one_of false folded) × AreFolded (range letter letter ∷ []) folded)))

-- what a mark is without case
abbrev pub IsFolded : Mark → Mark → Type 0
IsFolded (literal letter) mark = IsFoldedLetter letter mark
IsFolded any mark = mark ≡ any
IsFolded (star again) mark = mark ≡ star again
IsFolded (one_of negated ranges) mark = (folded : List Range) × ((mark ≡ one_of negated folded) × AreFolded ranges folded)
IsFolded (opens index) mark = mark ≡ opens index
IsFolded comma mark = mark ≡ comma
IsFolded (closes index) mark = mark ≡ closes index

-- what marks are, without case or with it
abbrev pub AreCased : Bool → List Mark → List Mark → Type 0
AreCased false marks cased = cased ≡ marks
AreCased true [] [] = Unit {0}
AreCased true [] (c ∷ cs) = ⊥
AreCased true (m ∷ ms) [] = ⊥
AreCased true (m ∷ ms) (c ∷ cs) = IsFolded m c × AreCased true ms cs
