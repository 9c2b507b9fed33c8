-- Where one list occurs in another.
use Rattle.std.specs.Prelude.{◌≡◌, ℕ, ◌<◌, List, ◌++◌, length, Option, MatchOption}

-- p occurs in s at index i
pub record OccursAt (p s : List ℕ) (i : ℕ) : Type 0 where
  pub before : List ℕ
  pub after : List ℕ
  pub joined : s ≡ before ++ (p ++ after)
  pub index : length before ≡ i

-- p doesn't occur in s
abbrev pub OccursNowhere : List ℕ → List ℕ → Type 0
OccursNowhere p s = (i : ℕ) → ¬ (OccursAt p s i)

-- p is a prefix of s
pub record IsPrefix (p s : List ℕ) : Type 0 where
  pub rest : List ℕ
  pub joined : s ≡ p ++ rest

-- p is a suffix of s
pub record IsSuffix (p s : List ℕ) : Type 0 where
  pub rest : List ℕ
  pub joined : s ≡ rest ++ p

-- i is the first index at which p occurs in s
pub record IsFirstIndex (p s : List ℕ) (i : ℕ) : Type 0 where
  pub occurs : OccursAt p s i
  pub least : (k : ℕ) → k < i → ¬ (OccursAt p s k)

-- i is the last index at which p occurs in s
pub record IsLastIndex (p s : List ℕ) (i : ℕ) : Type 0 where
  pub occurs : OccursAt p s i
  pub greatest : (k : ℕ) → i < k → ¬ (OccursAt p s k)

-- r is the index of p in s that Is names, None if p doesn't occur in s
abbrev pub Finds : (List ℕ → List ℕ → ℕ → Type 0) → List ℕ → List ℕ → Option ℕ → Type 0
Finds Is p s r = MatchOption r (OccursNowhere p s) (λ i. Is p s i)
