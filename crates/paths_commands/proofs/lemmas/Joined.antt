-- Paths below a base, with the separator at their end where that is kept.
use Rattle.std.proofs.Common.{◌≡◌, inl, inr, ℕ, List, refl, sym, subst}
use Rattle.std.specs.Prelude.{Bool, true, false}
use Rattle.path_rules.specs.StyleRules.{rules_of_style}
use Rattle.path_rules.specs.Trailing.{EndsWithSeparator}
use Rattle.path_rules.specs.declared.rules.Style.{Style}
use Rattle.path_building.specs.BaseViews.{base_path, base_style}
use Rattle.path_building.specs.Checked.{IsBelowBase, IsCheckedJoin}
use Rattle.path_building.specs.Trailing.{IsEndedAs, IsWithTrailingSep}
use Rattle.path_building.specs.declared.base.Base.{Base}
use Rattle.path_building.proofs.lemmas.KeptEnds.{kept_below}
use Rattle.paths_commands.specs.Task.{IsJoinedBelow}

module _ (base : Base) (keeps : Bool) (path joined : List ℕ) (checked : IsCheckedJoin (base_style base) (base_path base) path joined) (below : IsBelowBase (base_style base) (base_path base) joined) where
  kept : (ended : List ℕ) → keeps ≡ true → IsEndedAs (base_style base) path joined ended → IsJoinedBelow base keeps path ended
  kept ended is end =
      subst (λ k. IsJoinedBelow base k path ended) (sym is) (record { joined = joined; checked = checked; end = end }, kept_below (base_style base) (base_path base) path joined ended checked below end)

  pub ended_joined : (style : Style) (ended : List ℕ) → keeps ≡ true → style ≡ base_style base → EndsWithSeparator (rules_of_style style) path → IsWithTrailingSep style joined ended → IsJoinedBelow base keeps path ended
  ended_joined style ended is of ends written = kept ended is (inl (subst (λ w. EndsWithSeparator (rules_of_style w) path) of ends, subst (λ w. IsWithTrailingSep w joined ended) of written))

  pub unended_joined : (style : Style) → keeps ≡ true → style ≡ base_style base → ¬ (EndsWithSeparator (rules_of_style style) path) → IsJoinedBelow base keeps path joined
  unended_joined style is of ends = kept joined is (inr (subst (λ w. ¬ (EndsWithSeparator (rules_of_style w) path)) of ends, refl))

  pub plain_joined : keeps ≡ false → IsJoinedBelow base keeps path joined
  plain_joined is = subst (λ k. IsJoinedBelow base k path joined) (sym is) (checked, below)
