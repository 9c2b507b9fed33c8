-- A list doesn't occur again before its first occurrence, nor after its last one.
use Rattle.os_str_ext.proofs.Common.{◌≡◌, ℕ, ◌<◌, List, ◌++◌, length, sym, ap, ◌∙◌, refl, arith, length-append, append_assoc, SplitsAt, OccursNowhere, IsFirstIndex, IsLastIndex}

module _ (p s prefix suffix : List ℕ) (some : 0 < length p) where
  pub before_first : SplitsAt IsFirstIndex p s prefix suffix → OccursNowhere p prefix
  before_first c i h =
      let split : s ≡ h.before ++ (p ++ (h.after ++ (p ++ suffix))) =
      c.joined ∙ ap (λ x. x ++ (p ++ suffix)) h.joined ∙ append_assoc h.before (p ++ h.after) (p ++ suffix) ∙ ap (λ x. h.before ++ x) (append_assoc p h.after (p ++ suffix)) in
      let size = ap length h.joined ∙ length-append h.before (p ++ h.after) in
      c.found.least i (omega (arith, some, size, length-append p h.after, h.index)) (record { before = h.before; after = h.after ++ (p ++ suffix); joined = split; index = h.index })

  pub after_last : SplitsAt IsLastIndex p s prefix suffix → OccursNowhere p suffix
  after_last c i h =
      let prefix_of = prefix ++ (p ++ h.before) in
      let split : s ≡ prefix_of ++ (p ++ h.after) =
      c.joined ∙ ap (λ x. prefix ++ (p ++ x)) h.joined ∙ ap (λ x. prefix ++ x) (sym (append_assoc p h.before (p ++ h.after))) ∙ sym (append_assoc prefix (p ++ h.before) (p ++ h.after)) in
      let size = length-append prefix (p ++ h.before) in
      c.found.greatest (length prefix_of) (omega (arith, some, size, length-append p h.before)) (record { before = prefix_of; after = h.after; joined = split; index = refl })
