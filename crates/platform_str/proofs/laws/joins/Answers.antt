use Rattle.platform_str.proofs.Common.{◌≡◌, List, ℕ, ◌++◌, sym, ap, ◌∙◌, append_assoc, IsJoin, nat_tests, common_steps, arith}
use Rattle.wtf8_core.specs.{Occurrence.IsPrefix, OccurrenceLaws.OccurrenceLaws}
use Rattle.platform_str.proofs.laws.joins.Goals as goal

module _ (wf : List ℕ → Type 0) (units : List ℕ → List ℕ) (laws : OccurrenceLaws wf units) where
  one : (a b v w : List ℕ) → IsJoin wf units a b v → IsJoin wf units a b w → v ≡ w
  one a b v w j k = laws.once v w j.0 k.0 (j.1 ∙ sym k.1)

  associative : (a b c ab bc v w : List ℕ) → IsJoin wf units a b ab → IsJoin wf units ab c v → IsJoin wf units b c bc → IsJoin wf units a bc w → v ≡ w
  associative a b c ab bc v w j k l m =
      laws.once v w k.0 m.0 (k.1 ∙ ap (λ z. z ++ units c) j.1 ∙ append_assoc (units a) (units b) (units c) ∙ ap (λ z. units a ++ z) (sym l.1) ∙ sym m.1)

  -- what is left of a string after a prefix
  abbrev IsSomeJoin : List ℕ → List ℕ → Type 0
  IsSomeJoin p s = (q : List ℕ) × (wf q × IsJoin wf units p q s)

  prefixes : (p s : List ℕ) → wf p → wf s → (IsPrefix (units p) (units s) → IsSomeJoin p s) × (IsSomeJoin p s → IsPrefix (units p) (units s))
  prefixes p s v w = grind (arith, nat_tests, common_steps)

pub returns : goal.returns
returns g c = grind (arith, nat_tests, common_steps, one, associative, prefixes, g.met.E.Platform.occurrence.some_join, g.met.E.Platform.occurrence)
