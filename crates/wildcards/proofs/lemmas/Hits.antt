-- The choices that match a path.
use Rattle.std.proofs.Common.{◌≡◌, ◌⊎◌, ◌↔◌, inl, inr, ◌<◌, ℕ, zero, suc, List, [], ◌∷◌, length, sym, subst, arith}
use Rattle.std.specs.List.{HoldsAt}
use Rattle.std.specs.Prelude.{slice_index_or}
use Rattle.std.proofs.lemmas.List.Elements.{at_read}
use Rattle.wildcards.specs.declared.filter.Place.{Place}
use Rattle.wildcards.specs.declared.options.Options.{Options}
use Rattle.wildcards.specs.declared.pattern.Choice.{Choice}
use Rattle.wildcards.specs.declared.set.Pattern.{Pattern}
use Rattle.wildcards.specs.Filters.{IsHitAt}
use Rattle.wildcards.specs.Match.{Matches}
use Rattle.wildcards.specs.Sets.{MatchesChoice, IsHit}

module _ {A : Type 0} (o : Options) (path : List ℕ) where
  module _ (left rest : List (Choice A)) (c : Choice A) (e : left ≡ c ∷ rest) where
    pub first_choice : Matches o c.pieces.items path → MatchesChoice o left path
    first_choice m = subst (λ cs. MatchesChoice o cs path) (sym e) (inl m)

    pub later_choice : (Matches o c.pieces.items path → ⊥) → MatchesChoice o left path ↔ MatchesChoice o rest path
    later_choice never = (λ m. later (subst (λ cs. MatchesChoice o cs path) e m), λ m. subst (λ cs. MatchesChoice o cs path) (sym e) (inr m))
      where
        later : Matches o c.pieces.items path ⊎ MatchesChoice o rest path → MatchesChoice o rest path
        later (inl m) = absurd (never m)
        later (inr m) = m

  pub no_choice : (left : List (Choice A)) → left ≡ [] → MatchesChoice o left path → ⊥
  no_choice left e m = subst (λ cs. MatchesChoice o cs path) e m

  matches_at : (cs : List (Choice A)) (k : ℕ) → k < length cs → HoldsAt (λ c. Matches o c.pieces.items path) cs k → MatchesChoice o cs path
  matches_at [] k l m = absurd (omega (arith, l))
  matches_at (c ∷ cs) zero l m = inl (m c)
  matches_at (c ∷ cs) (suc k) l m = inr (matches_at cs k (omega (arith, l)) m)

  -- a pattern matches where the choice at one of its places does
  pub hit_of_place : (patterns : List (Pattern A)) (place : Place) → IsHitAt o patterns path place → IsHit o patterns path place.pattern
  hit_of_place patterns place h = (h.0, λ d. matches_at (slice_index_or patterns place.pattern d).choices.items place.choice (h.1 d).0 (h.1 d).1)

  -- the choice is read at the place
  pub at_place : (patterns : List (Pattern A)) (place : Place) (p : Pattern A) (c : Choice A) → place.pattern < length patterns → p ≡ slice_index_or patterns place.pattern p → place.choice < length p.choices.items → c ≡ slice_index_or p.choices.items place.choice c → Matches o c.pieces.items path ↔ IsHitAt o patterns path place
  at_place patterns place p c l is k own = (
    λ m. (l, at_read patterns (λ q. (place.choice < length q.choices.items) × HoldsAt (λ c. Matches o c.pieces.items path) q.choices.items place.choice) place.pattern p l is (k, at_read p.choices.items (λ c. Matches o c.pieces.items path) place.choice c k own m)),
    λ h. subst (λ z. Matches o z.pieces.items path) (sym own) ((subst (λ z. HoldsAt (λ c. Matches o c.pieces.items path) z.choices.items place.choice) (sym is) (h.1 p).1) c),
  )
