-- The indices of patterns that match are added to a list.
use Rattle.std.proofs.Common.{◌≡◌, ◌⊎◌, inl, inr, ◌<◌, ◌≤◌, ◌+◌, ℕ, List, [], ◌∷◌, ◌++◌, sym, subst, arith}
use Rattle.std.proofs.lemmas.Bool.{cases_lt}
use Rattle.wildcards.specs.declared.filter.Place.{Place}
use Rattle.wildcards.specs.declared.options.Options.{Options}
use Rattle.wildcards.specs.declared.set.Pattern.{Pattern}
use Rattle.wildcards.specs.Candidates.{OneHas}
use Rattle.wildcards.specs.Filters.{AddsHits, IsHitAt}
use Rattle.wildcards.specs.Sets.{Has, IsHit, AreFound}
use Rattle.wildcards.proofs.lemmas.Found.{has_or_not, has_more, has_pushed, has_either}

module _ {X : Type 0} (P : X → Type 0) where
  pub not_first : (left rest : List X) (x : X) → left ≡ x ∷ rest → (P x → ⊥) → (i : X) → P i → Has left i → Has rest i
  not_first left rest x e never i p h = of (subst (λ z. Has z i) e h)
    where
      of : (i ≡ x) ⊎ Has rest i → Has rest i
      of (inl k) = absurd (never (subst P k p))
      of (inr k) = k

module _ {A : Type 0} (o : Options) (patterns : List (Pattern A)) (path : List ℕ) where
  module _ (places : List Place) (old : List ℕ) where
    -- of the places these are left
    pub record Adding (left : List Place) (found : List ℕ) : Type 0 where
      pub sound : (i : ℕ) → Has found i → Has old i ⊎ IsHit o patterns path i
      pub kept : (i : ℕ) → Has old i → Has found i
      pub complete : (place : Place) → Has places place → IsHitAt o patterns path place → Has found place.pattern ⊎ Has left place

    pub none_added : (left : List Place) (found : List ℕ) → left ≡ places → found ≡ old → Adding left found
    none_added left found e f = record {
      sound = λ i h. inl (subst (λ z. Has z i) f h);
      kept = λ i h. subst (λ z. Has z i) (sym f) h;
      complete = λ place h hit. inr (subst (λ z. Has z place) (sym e) h);
    }

    module _ (left rest : List Place) (found : List ℕ) (place : Place) (e : left ≡ place ∷ rest) (a : Adding left found) where
      pub one_added : (more : List ℕ) → IsHit o patterns path place.pattern → more ≡ found ++ place.pattern ∷ [] → Adding rest more
      one_added more hit pushed = record {
        sound = λ i h. of_more i (has_either found place.pattern i (subst (λ z. Has z i) pushed h));
        kept = λ i h. subst (λ z. Has z i) (sym pushed) (has_more found place.pattern i (a.kept i h));
        complete = λ other h hit. onto other (a.complete other h hit);
      }
        where
          of_more : (i : ℕ) → Has found i ⊎ (i ≡ place.pattern) → Has old i ⊎ IsHit o patterns path i
          of_more i (inl h) = a.sound i h
          of_more i (inr k) = inr (subst (IsHit o patterns path) (sym k) hit)

          or_rest : (other : Place) → (other ≡ place) ⊎ Has rest other → Has more other.pattern ⊎ Has rest other
          or_rest other (inl k) = inl (subst (λ z. Has more z.pattern) (sym k) (subst (λ z. Has z place.pattern) (sym pushed) (has_pushed found place.pattern)))
          or_rest other (inr h) = inr h

          onto : (other : Place) → Has found other.pattern ⊎ Has left other → Has more other.pattern ⊎ Has rest other
          onto other (inl h) = inl (subst (λ z. Has z other.pattern) (sym pushed) (has_more found place.pattern other.pattern h))
          onto other (inr h) = or_rest other (subst (λ z. Has z other) e h)

      pub one_passed : (IsHitAt o patterns path place → ⊥) → Adding rest found
      one_passed never = record {
        sound = a.sound;
        kept = a.kept;
        complete = λ other h hit. onto other hit (a.complete other h hit);
      }
        where
          onto : (other : Place) → IsHitAt o patterns path other → Has found other.pattern ⊎ Has left other → Has found other.pattern ⊎ Has rest other
          onto other hit (inl h) = inl h
          onto other hit (inr h) = inr (not_first (IsHitAt o patterns path) left rest place e never other hit h)

    pub all_added : (left : List Place) (found : List ℕ) → left ≡ [] → Adding left found → AddsHits o patterns path places old found
    all_added left found e a = record { sound = a.sound; kept = a.kept; complete = λ place h hit. no_more place (a.complete place h hit) }
      where
        no_more : (place : Place) → Has found place.pattern ⊎ Has left place → Has found place.pattern
        no_more place (inl h) = h
        no_more place (inr h) = absurd (subst (λ z. Has z place) e h)

  -- of these lists all is found
  pub record Finding (lists : List (List Place)) (found : List ℕ) : Type 0 where
    pub sound : (i : ℕ) → Has found i → IsHit o patterns path i
    pub complete : (place : Place) → OneHas lists place → IsHitAt o patterns path place → Has found place.pattern

  pub none_found : (found : List ℕ) → found ≡ [] → Finding [] found
  none_found found e = record { sound = λ i h. absurd (subst (λ z. Has z i) e h); complete = λ place h hit. absurd h }

  pub more_found : (lists more : List (List Place)) (places : List Place) (found next : List ℕ) → ((place : Place) → OneHas more place → OneHas lists place ⊎ Has places place) → Finding lists found → AddsHits o patterns path places found next → Finding more next
  more_found lists more places found next either f adds = record {
    sound = λ i h. of_either i (adds.sound i h);
    complete = λ place h hit. onto place hit (either place h);
  }
    where
      of_either : (i : ℕ) → Has found i ⊎ IsHit o patterns path i → IsHit o patterns path i
      of_either i (inl h) = f.sound i h
      of_either i (inr h) = h

      onto : (place : Place) → IsHitAt o patterns path place → OneHas lists place ⊎ Has places place → Has next place.pattern
      onto place hit (inl h) = adds.kept place.pattern (f.complete place h hit)
      onto place hit (inr h) = adds.complete place h hit

  -- where each pattern that matches has a place in the lists
  pub all_found : (lists : List (List Place)) → ((i : ℕ) → IsHit o patterns path i → ((place : Place) → place.pattern ≡ i → IsHitAt o patterns path place → OneHas lists place → ⊥) → ⊥) → (found : List ℕ) → Finding lists found → AreFound o patterns path found
  all_found lists placed found f = record { sound = f.sound; complete = λ i hit. decided i hit (has_or_not found i) }
    where
      decided : (i : ℕ) → IsHit o patterns path i → Has found i ⊎ (Has found i → ⊥) → Has found i
      decided i hit (inl h) = h
      decided i hit (inr n) = absurd (placed i hit (λ place k at has. n (subst (Has found) k (f.complete place has at))))

  -- each pattern is tried, by its index
  abbrev pub NoneBelow : ℕ → Type 0
  NoneBelow n = (i : ℕ) → i < n → IsHit o patterns path i → ⊥

  pub none_more : (n : ℕ) → NoneBelow n → (IsHit o patterns path n → ⊥) → NoneBelow (n + 1)
  none_more n none never i l hit = by_size (cases_lt i n)
    where
      by_size : (i < n) ⊎ (n ≤ i) → ⊥
      by_size (inl m) = none i m hit
      by_size (inr m) = let e : i ≡ n = omega (arith, l, m) in never (subst (IsHit o patterns path) e hit)

  abbrev pub FoundBelow : ℕ → List ℕ → Type 0
  FoundBelow n found = ((i : ℕ) → Has found i → IsHit o patterns path i) × ((i : ℕ) → i < n → IsHit o patterns path i → Has found i)

  pub below_missed : (n : ℕ) (found : List ℕ) → (IsHit o patterns path n → ⊥) → FoundBelow n found → FoundBelow (n + 1) found
  below_missed n found never h = (h.0, λ i l hit. by_size i l hit (cases_lt i n))
    where
      by_size : (i : ℕ) → i < n + 1 → IsHit o patterns path i → (i < n) ⊎ (n ≤ i) → Has found i
      by_size i l hit (inl m) = h.1 i m hit
      by_size i l hit (inr m) = let e : i ≡ n = omega (arith, l, m) in absurd (never (subst (IsHit o patterns path) e hit))

  pub below_pushed : (n : ℕ) (found more : List ℕ) → more ≡ found ++ n ∷ [] → IsHit o patterns path n → FoundBelow n found → FoundBelow (n + 1) more
  below_pushed n found more e hit h = (λ i has. sound i (has_either found n i (subst (λ z. Has z i) e has)), λ i l own. subst (λ z. Has z i) (sym e) (by_size i l own (cases_lt i n)))
    where
      sound : (i : ℕ) → Has found i ⊎ (i ≡ n) → IsHit o patterns path i
      sound i (inl has) = h.0 i has
      sound i (inr same) = subst (IsHit o patterns path) (sym same) hit

      by_size : (i : ℕ) → i < n + 1 → IsHit o patterns path i → (i < n) ⊎ (n ≤ i) → Has (found ++ n ∷ []) i
      by_size i l own (inl m) = has_more found n i (h.1 i m own)
      by_size i l own (inr m) = let same : n ≡ i = omega (arith, l, m) in subst (Has (found ++ n ∷ [])) same (has_pushed found n)
