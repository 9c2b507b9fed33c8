-- The pattern of an index matches where its text does.
use Rattle.std.proofs.Common.{◌↔◌, ℕ, zero, suc, List, [], ◌∷◌, refl, sym, subst, arith, IsTrue, Result, Ok, Err, OnOk}
use Rattle.std.specs.Prelude.{Bool}
use Rattle.wildcards.specs.declared.options.Options.{Options}
use Rattle.wildcards.specs.declared.set.Pattern.{Pattern}
use Rattle.wildcards.specs.Sets.{IsHit, AreHits}
use Rattle.glob_patterns.specs.declared.options.GlobOptions.{GlobOptions}
use Rattle.glob_patterns.specs.GlobSets.{AreMeanings}
use Rattle.glob_patterns.specs.Options.{options_of, syntax_of}
use Rattle.glob_patterns.specs.TextMatch.{IsTextHit, IsMatchOfTexts, AreMatchesOfTexts}

module _ (formed : List ℕ → Type 0) (letters : List ℕ → List ℕ) {A : Type 0} where
  module _ (o : GlobOptions) (path : List ℕ) where
    hit_alike : (ts : List (List ℕ)) (ps : List (Pattern A)) (meanings : AreMeanings formed letters (syntax_of o) A ts ps) (i : ℕ) → IsHit (options_of o) ps path i ↔ IsTextHit formed letters o ts ps meanings path i
    hit_alike [] [] meanings i = (λ h. let l = h.0 in omega (arith, l), λ h. absurd h)
    hit_alike [] (p ∷ ps) meanings i = absurd meanings
    hit_alike (t ∷ ts) [] meanings i = absurd meanings
    hit_alike (t ∷ ts) (p ∷ ps) meanings zero =
        let same = meanings.0.are.are.matched (options_of o) refl path in
        (λ h. same.0 (h.1 p), λ k. (omega arith, λ d. same.1 k))
    hit_alike (t ∷ ts) (p ∷ ps) meanings (suc i) =
        let same = hit_alike ts ps meanings.1 i in
        (λ h. same.0 (let l = h.0 in omega (arith, l), λ d. h.1 d), λ k. let h = same.1 k in (let l = h.0 in omega (arith, l), λ d. h.1 d))

  module _ (matching : Options) (ps : List (Pattern A)) (path : List ℕ) where
    pub match_of_texts : (result : Bool) → IsTrue result ↔ ((i : ℕ) × IsHit matching ps path i) → IsMatchOfTexts formed letters matching ps path result
    match_of_texts result both o texts meanings e =
        let same = hit_alike o path texts ps meanings in (
          λ r. let h = both.0 r in (h.0, (same h.0).0 (subst (λ z. IsHit z ps path h.0) e h.1)),
          λ k. both.1 (k.0, subst (λ z. IsHit z ps path k.0) (sym e) ((same k.0).1 k.1)),
        )

    pub matches_of_texts : (found : List ℕ) → AreHits matching ps path found → AreMatchesOfTexts formed letters matching ps path found
    matches_of_texts found are o texts meanings e i =
        let same = hit_alike o path texts ps meanings i in (
          λ h. same.0 (subst (λ z. IsHit z ps path i) e (are.sound i h)),
          λ k. are.complete i (subst (λ z. IsHit z ps path i) (sym e) (same.1 k)),
        )

pub on_ok : {T E P Q : Type 0} (r : Result T E) → (P → Q) → OnOk r P → OnOk r Q
on_ok (Ok x) f h = f h
on_ok (Err e) f h = tt
