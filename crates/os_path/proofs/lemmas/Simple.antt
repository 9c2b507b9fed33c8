-- A path without `\\?\` is a string.
use Rattle.std.proofs.Common.{inl, inr, ℕ, List, [], ◌∷◌, take, drop, refl, sym, subst, lit<}
use Rattle.wtf8_core.specs.Boundary.{IsBoundary}
use Rattle.path_rules.specs.Cut.{after_ascii}
use Rattle.path_rules.specs.declared.rules.Style.{Style}
use Rattle.path_rules.specs.declared.rules.Style.TheVariants as style
use Rattle.path_rules.specs.Simplified.{IsSimplified}
use Rattle.os_path.proofs.lemmas.Cuts.{after_formed}

module _ (formed : List ℕ → Type 0) (cut_prefix : (b : List ℕ) (i : ℕ) → formed b → IsBoundary b i → formed (take i b)) (cut_suffix : (b : List ℕ) (i : ℕ) → formed b → IsBoundary b i → formed (drop i b)) where
  pub simplified_formed : (w : Style) (s t : List ℕ) → IsSimplified w s t → formed s → formed t
  simplified_formed style.Unix s t h f = subst formed (sym h) f
  simplified_formed style.Windows s t (inl h) f =
      after_formed formed cut_prefix cut_suffix s (0x5C ∷ 0x5C ∷ 0x3F ∷ 0x5C ∷ []) t h.joined (after_ascii (0x5C ∷ 0x5C ∷ 0x3F ∷ []) 0x5C refl (lit< tt)) f
  simplified_formed style.Windows s t (inr h) f = subst formed (sym h.1) f
