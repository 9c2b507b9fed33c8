-- How many strings are so, of the pieces of bytes.
use Rattle.std.proofs.Common.{◌≡◌, ◌↔◌, ◌≤◌, inl, inr, ℕ, suc, ◌+◌, List, [], ◌∷◌, length, take, drop, refl, sym, subst, arith}
use Rattle.bench_exports.specs.Answers.{Fit, IsCount, pieces_of}

-- strings are counted up to the pieces of these lengths
pub record IsCounted (Is : List ℕ → Type 0) (all : List (List ℕ)) (most : ℕ) (lens rest : List ℕ) (count : ℕ) : Type 0 where
  pub fit : Fit lens rest
  pub few : count + length lens ≤ most
  pub so_far : (more : ℕ) → IsCount Is (pieces_of lens rest) more → IsCount Is all (count + more)

pub none_counted : (Is : List ℕ → Type 0) (lens rest : List ℕ) → Fit lens rest → IsCounted Is (pieces_of lens rest) (length lens) lens rest 0
none_counted Is lens rest fit = record { fit = fit; few = omega arith; so_far = λ more h. let same : more ≡ 0 + more = omega arith in subst (IsCount Is (pieces_of lens rest)) same h }

empty : (ns : List ℕ) → length ns ≡ 0 → ns ≡ []
empty [] e = refl
empty (n ∷ ns) e = absurd (omega arith)

module _ (Is : List ℕ → Type 0) (all : List (List ℕ)) (most : ℕ) (lens rest : List ℕ) (count : ℕ) (h : IsCounted Is all most lens rest count) where
  pub all_counted : length lens ≡ 0 → IsCount Is all count
  all_counted e =
      let same : count + 0 ≡ count = omega arith in
      subst (IsCount Is all) same (h.so_far 0 (subst (λ ns. IsCount Is (pieces_of ns rest) 0) (sym (empty lens e)) refl))

  module _ (n : ℕ) (more : List ℕ) (e : lens ≡ n ∷ more) where
    at_one : IsCounted Is all most (n ∷ more) rest count
    at_one = subst (λ ns. IsCounted Is all most ns rest count) e h

    module _ (string after : List ℕ) (prefix : string ≡ take n rest) (suffix : after ≡ drop n rest) where
      pub one_more : Is string → IsCounted Is all most more after (count + 1)
      one_more is = record {
        fit = subst (Fit more) (sym suffix) at_one.fit.1;
        few = let few : count + length (n ∷ more) ≤ most = at_one.few in omega arith;
        so_far = λ k counted.
            let same : count + suc k ≡ count + 1 + k = omega arith in
            subst (IsCount Is all) same (at_one.so_far (suc k) (inl (subst Is prefix is, (k, refl, subst (λ r. IsCount Is (pieces_of more r) k) suffix counted))));
      }

      pub none_more : (Is string → ⊥) → IsCounted Is all most more after count
      none_more is_not = record {
        fit = subst (Fit more) (sym suffix) at_one.fit.1;
        few = let few : count + length (n ∷ more) ≤ most = at_one.few in omega arith;
        so_far = λ k counted. at_one.so_far k (inr (λ is. is_not (subst Is (sym prefix) is), subst (λ r. IsCount Is (pieces_of more r) k) suffix counted));
      }

-- strings that are otherwise
pub alike : (Is Others : List ℕ → Type 0) → ((s : List ℕ) → Is s ↔ Others s) → (ss : List (List ℕ)) (n : ℕ) → IsCount Is ss n → IsCount Others ss n
alike Is Others same [] n h = h
alike Is Others same (s ∷ ss) n (inl h) = inl ((same s).0 h.0, (h.1.0, h.1.1, alike Is Others same ss h.1.0 h.1.2))
alike Is Others same (s ∷ ss) n (inr h) = inr (λ k. h.0 ((same s).1 k), alike Is Others same ss n h.1)

pub none : (Is : List ℕ → Type 0) → ((s : List ℕ) → Is s → ⊥) → (ss : List (List ℕ)) → IsCount Is ss 0
none Is never [] = refl
none Is never (s ∷ ss) = inr (never s, none Is never ss)
