-- A path that keeps a separator at its end is well formed.
use Rattle.std.proofs.Common.{inl, inr, ℕ, List, [], take, drop, sym, subst}
use Rattle.wtf8_core.specs.Boundary.{IsBoundary}
use Rattle.wtf8_core.specs.OccurrenceLaws.{OccurrenceLaws}
use Rattle.path_rules.specs.declared.rules.Style.{Style}
use Rattle.path_building.specs.CheckedEnd.{IsCheckedJoinEnded}
use Rattle.path_building.specs.Trailing.{IsEndedAs}
use Rattle.path_building.proofs.lemmas.Trailing.{to_join}
use Rattle.os_path.proofs.lemmas.CheckedParts.{checked_formed}
use Rattle.os_path.proofs.lemmas.Cuts.{cuts}
use Rattle.os_path.proofs.lemmas.Joined.{join_formed, nothing_formed}

module _ (formed : List ℕ → Type 0) (units : List ℕ → List ℕ) (laws : OccurrenceLaws formed units) (cut_prefix : (b : List ℕ) (i : ℕ) → formed b → IsBoundary b i → formed (take i b)) (cut_suffix : (b : List ℕ) (i : ℕ) → formed b → IsBoundary b i → formed (drop i b)) where
  pub end_formed : (w : Style) (other path ended : List ℕ) → IsEndedAs w other path ended → formed path → formed ended
  end_formed w other path ended (inl k) fp = join_formed formed units laws (cuts formed cut_prefix cut_suffix) w path [] ended (to_join w path ended k.1) fp (nothing_formed formed units laws)
  end_formed w other path ended (inr k) fp = subst formed (sym k.1) fp

  pub ended_formed : (w : Style) (base path ended : List ℕ) → IsCheckedJoinEnded w base path ended → formed base → formed path → formed ended
  ended_formed w base path ended h fb fp = end_formed w path h.joined ended h.end (checked_formed formed units laws cut_prefix cut_suffix w base path h.joined h.checked fb fp)
