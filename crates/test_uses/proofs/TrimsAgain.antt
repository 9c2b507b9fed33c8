-- A second trim takes nothing off.
use Rattle.std.proofs.Common.{◌≡◌, ℕ, zero, suc, List, ◌++◌, sym, ap, subst, ◌∙◌, append_assoc}
use Rattle.std.proofs.lemmas.List.{append-nil}
use Rattle.std.specs.List.{repeat}
use Rattle.os_str_ext.specs.Pieces.{IsStartTrim, IsEndTrim, IsTrim}
use Rattle.wtf8_core.specs.Occurrence.{IsPrefix, IsSuffix}

module _ (p : List ℕ) where
  nothing_first : (s r : List ℕ) (n : ℕ) → ¬ (IsPrefix p s) → s ≡ repeat n p ++ r → r ≡ s
  nothing_first s r zero none e = sym e
  nothing_first s r (suc n) none e = absurd (none (record { rest = repeat n p ++ r; joined = e ∙ append_assoc p (repeat n p) r }))

  -- what doesn't start with p is left as it is
  pub start_again : (s r : List ℕ) → ¬ (IsPrefix p s) → IsStartTrim p s r → r ≡ s
  start_again s r none trim = nothing_first s r trim.count none trim.trimmed

  one_more : (n : ℕ) → repeat n p ++ p ≡ p ++ repeat n p
  one_more zero = sym (append-nil p)
  one_more (suc n) = append_assoc p (repeat n p) p ∙ ap (λ r. p ++ r) (one_more n)

  nothing_last : (s r : List ℕ) (n : ℕ) → ¬ (IsSuffix p s) → s ≡ r ++ repeat n p → r ≡ s
  nothing_last s r zero none e = sym (e ∙ append-nil r)
  nothing_last s r (suc n) none e =
      absurd (none (record { rest = r ++ repeat n p; joined = e ∙ ap (λ x. r ++ x) (sym (one_more n)) ∙ sym (append_assoc r (repeat n p) p) }))

  -- what doesn't end with p is left as it is
  pub end_again : (s r : List ℕ) → ¬ (IsSuffix p s) → IsEndTrim p s r → r ≡ s
  end_again s r none trim = nothing_last s r trim.count none trim.trimmed

  -- a trim of a trim is that trim
  pub trim_again : (s r t : List ℕ) → IsTrim p s r → IsTrim p r t → t ≡ r
  trim_again s r t first second =
      let cut = first.1.1 in
      let no_prefix : ¬ (IsPrefix p r) = λ prefix. first.1.0.done (record { rest = prefix.rest ++ repeat cut.count p; joined = cut.trimmed ∙ ap (λ x. x ++ repeat cut.count p) prefix.joined ∙ append_assoc p prefix.rest (repeat cut.count p) }) in
      let same = start_again r second.0 no_prefix second.1.0 in
      end_again second.0 t (λ end. cut.done (subst (IsSuffix p) same end)) second.1.1 ∙ same
