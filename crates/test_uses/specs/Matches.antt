-- The matches of a list in another: where it occurs, each match after the one before (std's `str::match_indices`).
use Rattle.std.specs.Prelude.{ℕ, ◌+◌, ◌<◌, ◌≤◌, List, [], ◌∷◌, length}
use Rattle.wtf8_core.specs.Occurrence.{OccursAt}

-- the first index from i on at which p occurs in s
pub record IsNextMatch (p s : List ℕ) (i at : ℕ) : Type 0 where
  pub occurs : OccursAt p s at
  pub from : i ≤ at
  pub first : (j : ℕ) → i ≤ j → j < at → ¬ (OccursAt p s j)

-- the matches of p in s from index i on: each is the first one after the end of the match before, until there is none
pub data AreMatches (p s : List ℕ) : ℕ → List ℕ → Type 0 where
  none : {i : ℕ} → ((j : ℕ) → i ≤ j → ¬ (OccursAt p s j)) → AreMatches p s i []
  next : {i at : ℕ} {others : List ℕ} → IsNextMatch p s i at → AreMatches p s (at + length p) others → AreMatches p s i (at ∷ others)
