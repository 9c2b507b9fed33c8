-- What a vector of 16 lanes has. Only private contracts name this.
use Rattle.std.specs.Prelude.{◌≡◌, ℕ, ◌<◌, List, length, slice_index}

-- there are 16 lanes, and f says what each is
pub record HasLanes (xs : List ℕ) (f : ℕ → ℕ) : Type 0 where
  pub many : length xs ≡ 16
  pub each : (i : ℕ) → i < 16 → slice_index xs i ≡ f i
