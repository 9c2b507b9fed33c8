-- How letters without case are found: only private contracts name this.
use Rattle.std.specs.Prelude.{◌≡◌, ◌≢◌, ◌⊎◌, ◌<◌, ◌≤◌, ℕ, true, false, List, [], ◌∷◌, length}
use Rattle.std.specs.List.{AllWithin}
use Rattle.wildcards.specs.declared.range.Range.{Range}
use Rattle.wildcards.specs.Ranges.{is_in, lies_in}
use Rattle.ucd_case.specs.CaseFolding.{fold_pairs, simple_fold}
use Rattle.glob_text.specs.Folded.{HasAlike}

-- the pairs before this index begin with lower letters, and no other pair does
pub record IsFirstPair (letter at : ℕ) : Type 0 where
  pub lower : AllWithin (λ (p : ℕ × ℕ). p.0 < letter) fold_pairs 0 at
  pub others : AllWithin (λ (p : ℕ × ℕ). letter ≤ p.0) fold_pairs at (length fold_pairs)

-- the letters that differ from one of the range in case alone, and aren't in it, are added
pub record AddsAlike (range : Range) (old new : List Range) : Type 0 where
  pub kept : (c : ℕ) → is_in old c ≡ true → is_in new c ≡ true
  pub sound : (c : ℕ) → is_in new c ≡ true → (is_in old c ≡ true) ⊎ HasAlike (range ∷ []) c
  pub complete : (m c : ℕ) → lies_in range m ≡ true → lies_in range c ≡ false → m ≢ c → simple_fold m ≡ simple_fold c → is_in new c ≡ true
