-- Which patterns of a set match a path.
use Rattle.std.specs.Prelude.{◌≡◌, ◌⊎◌, ◌<◌, ℕ, List, [], ◌∷◌, length}
use Rattle.std.specs.List.{AllByRecursion, HoldsAt}
use Rattle.wildcards.specs.declared.options.Options.{Options}
use Rattle.wildcards.specs.declared.pattern.Choice.{Choice}
use Rattle.wildcards.specs.declared.set.Pattern.{Pattern}
use Rattle.wildcards.specs.Match.{Matches}

-- the list has the element
abbrev pub Has : {X : Type 0} → List X → X → Type 0
Has [] i = ⊥
Has (x ∷ xs) i = (i ≡ x) ⊎ Has xs i

-- each number is below the next
abbrev pub Ascends : List ℕ → Type 0
Ascends [] = Unit {0}
Ascends (x ∷ xs) = AllByRecursion (λ y. x < y) xs × Ascends xs

module _ {A : Type 0} where
  -- one of the choices matches the letters of a path
  abbrev pub MatchesChoice : Options → List (Choice A) → List ℕ → Type 0
  MatchesChoice o [] path = ⊥
  MatchesChoice o (c ∷ cs) path = Matches o c.pieces.items path ⊎ MatchesChoice o cs path

  -- the pattern of this index matches
  abbrev pub IsHit : Options → List (Pattern A) → List ℕ → ℕ → Type 0
  IsHit o patterns path i = (i < length patterns) × HoldsAt (λ p. MatchesChoice o p.choices.items path) patterns i

  -- exactly the indices whose pattern matches
  pub record AreFound (o : Options) (patterns : List (Pattern A)) (path : List ℕ) (found : List ℕ) : Type 0 where
    pub sound : (i : ℕ) → Has found i → IsHit o patterns path i
    pub complete : (i : ℕ) → IsHit o patterns path i → Has found i

  -- exactly the indices whose pattern matches, ascending
  pub record AreHits (o : Options) (patterns : List (Pattern A)) (path : List ℕ) (found : List ℕ) : Type 0 where
    pub sound : (i : ℕ) → Has found i → IsHit o patterns path i
    pub complete : (i : ℕ) → IsHit o patterns path i → Has found i
    pub ascends : Ascends found
