-- What clauses see of a base of a platform.
use Rattle.std.specs.Prelude.{ℕ, List}
use Rattle.platform_str.specs.declared.platform.Platform as platform
use Rattle.path_building.specs.BaseViews.{base_path}
use Rattle.os_path.specs.declared.base.Base.{Base}
use Rattle.os_path.specs.declared.style.PathStyle as style

module _ {E : Type 0} {P : platform.Ghosts E} {S : style.Ghosts E} where
  -- the path that the base is
  abbrev pub path_of_base : Base E S P → List ℕ
  path_of_base base = base_path base.base
