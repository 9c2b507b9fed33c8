-- The result for a part that a path may lack.
use Rattle.std.proofs.Common.{◌≡◌, ◌⊎◌, inl, inr, ℕ, List, [], Option, None, Some, sym, subst}
use Rattle.std.specs.Prelude.{MatchOption}

-- the part, or nothing where there is none
pub part_or_nothing : {X : Type 0} (part : Option X) (bytes : X → List ℕ) (Lacks : Type 0) (Has : List ℕ → Type 0) (answer : List ℕ)
    → MatchOption part Lacks (λ x. Has (bytes x)) → MatchOption part (answer ≡ []) (λ x. answer ≡ bytes x) → Has answer ⊎ (Lacks × (answer ≡ []))
part_or_nothing None bytes Lacks Has answer lacks is = inr (lacks, is)
part_or_nothing (Some x) bytes Lacks Has answer has is = inl (subst Has (sym is) has)
