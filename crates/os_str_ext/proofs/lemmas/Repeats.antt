-- Repeated strings, by the laws of occurrences.
use Rattle.os_str_ext.proofs.Common.{◌≡◌, ℕ, zero, suc, ◌+◌, List, [], ◌∷◌, ◌++◌, length, refl, sym, ap, ◌∙◌, subst, arith, repeat, OccurrenceLaws, no_units}
use Rattle.wtf8_core.proofs.lemmas.occurrence.Indices.{nil_formed}
use Rattle.os_str_ext.proofs.lemmas.Runs.{repeat-after}

-- no list
abbrev empty : List ℕ
empty = []

-- the empty list repeated any number of times
repeat-nil : (n : ℕ) → repeat n empty ≡ []
repeat-nil zero = refl
repeat-nil (suc n) = repeat-nil n

module _ (wf : List ℕ → Type 0) (units : List ℕ → List ℕ) (laws : OccurrenceLaws wf units) where
  -- v has the units of s repeated so many times
  abbrev pub IsRepeated : List ℕ → ℕ → List ℕ → Type 0
  IsRepeated s n v = wf v × (units v ≡ repeat n (units s))

  pub no_times : (s v : List ℕ) (n : ℕ) → v ≡ [] → n ≡ 0 → IsRepeated s n v
  no_times s v n e h = (subst wf (sym e) (nil_formed wf units laws), ap units e ∙ no_units wf units laws ∙ ap (λ k. repeat k (units s)) (sym h))

  pub of_nothing : (s v : List ℕ) (n : ℕ) → v ≡ [] → length s ≡ 0 → IsRepeated s n v
  of_nothing [] v n e h = (subst wf (sym e) (nil_formed wf units laws), ap units e ∙ no_units wf units laws ∙ sym (repeat-nil n) ∙ ap (repeat n) (sym (no_units wf units laws)))
  of_nothing (x ∷ s) v n e h = absurd (omega arith)

  pub once_more : (s v w : List ℕ) (n : ℕ) → IsRepeated s n v → wf w → units w ≡ units v ++ units s → IsRepeated s (n + 1) w
  once_more s v w n r f e = let more : suc n ≡ n + 1 = omega arith in (f, e ∙ ap (λ z. z ++ units s) r.1 ∙ repeat-after (units s) n ∙ ap (λ k. repeat k (units s)) more)
