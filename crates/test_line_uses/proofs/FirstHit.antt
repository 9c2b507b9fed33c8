-- The first of the patterns of a set that match.
use Rattle.std.proofs.Common.{◌≡◌, ◌<◌, ⊎_elim, inl, ℕ, List, [], ◌∷◌, length, refl, sym, subst, arith}
use Rattle.std.specs.List.{AllByRecursion}
use Rattle.wildcards.specs.declared.options.Options.{Options}
use Rattle.wildcards.specs.declared.set.Pattern.{Pattern}
use Rattle.wildcards.specs.Sets.{Has, IsHit, AreHits}

above : (x : ℕ) (xs : List ℕ) → AllByRecursion (λ y. x < y) xs → (j : ℕ) → Has xs j → x < j
above x [] h j has = absurd has
above x (y ∷ xs) h j has = ⊎_elim (λ e. subst (λ z. x < z) (sym e) h.0) (λ k. above x xs h.1 j k) has

empty : (xs : List ℕ) → length xs ≡ 0 → xs ≡ []
empty [] e = refl
empty (x ∷ xs) e = absurd (omega (arith, e))

module _ {A : Type 0} (o : Options) (patterns : List (Pattern A)) (path : List ℕ) where
  -- no pattern before this one matches
  abbrev pub IsFirstHit : ℕ → Type 0
  IsFirstHit i = IsHit o patterns path i × ((j : ℕ) → j < i → ¬ (IsHit o patterns path j))

  pub no_hit : (found : List ℕ) → length found ≡ 0 → AreHits o patterns path found → (i : ℕ) → ¬ (IsHit o patterns path i)
  no_hit found e h i hit = subst (λ z. Has z i) (empty found e) (h.complete i hit)

  pub first_hit : (found : List ℕ) (x : ℕ) (xs : List ℕ) → found ≡ x ∷ xs → AreHits o patterns path found → IsFirstHit x
  first_hit found x xs e h =
      let ascends = (subst (AreHits o patterns path) e h).ascends in (
        h.sound x (subst (λ z. Has z x) (sym e) (inl refl)),
        λ j below hit. ⊎_elim (λ same. omega (arith, below, same)) (λ k. let over = above x xs ascends.0 j k in omega (arith, below, over)) (subst (λ z. Has z j) e (h.complete j hit)),
      )
