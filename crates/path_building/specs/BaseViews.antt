-- What clauses see of a base.
use Rattle.std.specs.Prelude.{ℕ, List}
use Rattle.path_rules.specs.declared.rules.Style.{Style}
use Rattle.path_building.specs.declared.base.Base.{Base}

abbrev pub base_style : Base → Style
base_style base = base.parsed.style

abbrev pub base_path : Base → List ℕ
base_path base = base.parsed.whole.now
