-- Nothing is left to push.
use Rattle.std.proofs.Common.{◌<◌, ℕ, List, [], ◌∷◌, length, map, arith, refl}
use Rattle.path_rules.specs.declared.rules.Style.{Style}
use Rattle.path_rules.specs.Component.{Item}
use Rattle.path_building.specs.Collected.{ArePushed}

pub pushed_none : {X : Type 0} (f : X → Item) (w : Style) (xs : List X) (path : List ℕ) → length xs < 1 → ArePushed w path (map f xs) path
pushed_none f w [] path l = refl
pushed_none f w (x ∷ xs) path l = absurd (omega arith)
