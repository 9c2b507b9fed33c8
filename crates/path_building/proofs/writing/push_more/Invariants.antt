use Rattle.std.proofs.Common.{◌≡◌, ◌++◌, map, drop}
use Rattle.path_rules.specs.Views.{item_of}
use Rattle.path_building.specs.Written.{more_names}
use Rattle.path_building.proofs.writing.push_more.Given as goal

abbrev pub invariant-loop-name : goal.invariant-loop-name
invariant-loop-name g l = l.path.items ++ more_names l.separator (map item_of (drop l.name-index l.names)) ≡ l.fn.path.items ++ more_names l.separator (map item_of l.names)
