-- What two cuts around a match in a list leave.
use Rattle.std.proofs.Common.{◌≡◌, ℕ, ◌+◌, List, ◌++◌, length, take, drop, sym, ap, ◌∙◌}
use Rattle.std.proofs.Math.Seq.{take-append_seam, drop-append-add, drop-append_seam}
use Rattle.os_str_ext.specs.Pieces.{SplitsAt}
use Rattle.wtf8_core.specs.Occurrence.{OccursAt}

module _ (Is : List ℕ → List ℕ → ℕ → Type 0) (p s prefix suffix : List ℕ) (i : ℕ) where
  pub parts_around : Is p s i → OccursAt p s i → prefix ≡ take i s → suffix ≡ drop (i + length p) s → SplitsAt Is p s prefix suffix
  parts_around found at cut_prefix cut_suffix =
      let has_same_prefix : prefix ≡ at.before = cut_prefix ∙ ap (λ n. take n s) (sym at.index) ∙ ap (take (length at.before)) at.joined ∙ take-append_seam at.before (p ++ at.after) in
      let has_same_suffix : suffix ≡ at.after =
      cut_suffix ∙ ap (λ n. drop (n + length p) s) (sym at.index) ∙ ap (drop (length at.before + length p)) at.joined ∙ drop-append-add at.before (p ++ at.after) (length p) ∙ drop-append_seam p at.after in
      record { joined = at.joined ∙ ap (λ f. f ++ (p ++ at.after)) (sym has_same_prefix) ∙ ap (λ b. prefix ++ (p ++ b)) (sym has_same_suffix); found = rw (ap length has_same_prefix ∙ at.index) found }
