use Rattle.std.proofs.Common.{◌≡◌, ◌++◌, map, take}
use Rattle.path_rules.specs.Views.{item_of}
use Rattle.path_building.proofs.checked.add_names.Given as goal

abbrev pub invariant-loop-name : goal.invariant-loop-name
invariant-loop-name g l = map item_of l.names.items ≡ map item_of l.fn.names.items ++ map item_of (take l.name-index l.more)
