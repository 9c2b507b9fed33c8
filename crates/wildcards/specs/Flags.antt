-- Words of 128 flags: only private contracts name this.
use Rattle.std.specs.Prelude.{◌≡◌, ◌↔◌, ◌<◌, ◌⊎◌, ℕ, zero, suc, Bool, IsTrue}
use Rattle.std.specs.Int.{bit_at}

-- the flag of this place is set
pub record Set (word place : ℕ) : Type 0 where
  pub one : bit_at word place ≡ 1

-- each flag is one place higher
pub record IsShifted (word result : ℕ) : Type 0 where
  pub lowest : Set result zero → ⊥
  pub higher : (i : ℕ) → suc i < 128 → Set result (suc i) ↔ Set word i

-- the lowest flag is set where it was or where this one is, and the others stay
pub record SetsLowest (word : ℕ) (flag : Bool) (result : ℕ) : Type 0 where
  pub lowest : Set result zero ↔ (Set word zero ⊎ IsTrue flag)
  pub higher : (i : ℕ) → Set result (suc i) ↔ Set word (suc i)

-- a place is reached from the place before it if that fits, and from itself if it stays
pub record IsStepped (word fitting staying result : ℕ) : Type 0 where
  pub lowest : Set result zero ↔ (Set word zero × Set staying zero)
  pub higher : (i : ℕ) → suc i < 128 → Set result (suc i) ↔ ((Set word i × Set fitting i) ⊎ (Set word (suc i) × Set staying (suc i)))
