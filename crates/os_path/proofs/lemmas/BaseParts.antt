-- The base of paths is well formed.
use Rattle.std.proofs.Common.{ℕ, List, take, drop}
use Rattle.wtf8_core.specs.Boundary.{IsBoundary}
use Rattle.path_rules.specs.declared.rules.Style.{Style}
use Rattle.path_building.specs.CommonBase.{IsFront, whole, above}
use Rattle.os_path.proofs.lemmas.Cuts.{before_formed}

-- a front of a string of a platform is one
module _ (formed : List ℕ → Type 0) (cut_prefix : (b : List ℕ) (i : ℕ) → formed b → IsBoundary b i → formed (take i b)) (cut_suffix : (b : List ℕ) (i : ℕ) → formed b → IsBoundary b i → formed (drop i b)) where
  pub front_formed : (w : Style) (path t : List ℕ) → IsFront w path t → formed path → formed t
  front_formed w path _ (whole t h) f = before_formed formed cut_prefix cut_suffix path t h.after h.joined h.cut f
  front_formed w path _ (above t lower g p) f = before_formed formed cut_prefix cut_suffix lower t p.after p.joined p.cut (front_formed w path lower g f)
