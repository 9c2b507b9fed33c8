-- What a refusal says, by the laws of faults.
use Rattle.std.proofs.Common.{◌≡◌, ℕ, List, Result, Ok, Err, MatchResult}
use Rattle.wtf8_core.specs.declared.fault.EncodingError.{EncodingError}
use Rattle.os_str_bytes.specs.Headline.{IsOnlyFault}

module _ {T : Type 0} (formed : List ℕ → Type 0) (faults : List ℕ → EncodingError → Type 0) (faulty : (b : List ℕ) (f : EncodingError) → faults b f → ¬ (formed b)) (one_fault : (b : List ℕ) (f g : EncodingError) → faults b f → faults b g → f ≡ g) where
  -- if the first fault refuses bytes, it is their only fault
  pub only_fault : (b : List ℕ) (r : Result T EncodingError) → MatchResult r (λ _. formed b) (λ f. faults b f) → MatchResult r (λ _. formed b) (λ f. IsOnlyFault formed faults b f)
  only_fault b (Ok x) h = h
  only_fault b (Err f) h = record { is = h; only = λ g k. one_fault b g f k h; refused = faulty b f h }
