-- A path below a base that keeps the separator at its end, as an archive writes a directory.
use Rattle.std.specs.Prelude.{ℕ, List}
use Rattle.path_rules.specs.declared.rules.Style.{Style}
use Rattle.path_building.specs.Checked.{IsCheckedJoin}
use Rattle.path_building.specs.Trailing.{IsEndedAs}

-- the path below the base, with a separator at its end if the path that is joined ends with one
pub record IsCheckedJoinEnded (w : Style) (base path ended : List ℕ) : Type 0 where
  pub joined : List ℕ
  pub checked : IsCheckedJoin w base path joined
  pub end : IsEndedAs w path joined ended
