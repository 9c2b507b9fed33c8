use Rattle.std.proofs.Common.{◌≡◌, ◌++◌, map, length}
use Rattle.path_rules.specs.Views.{item_of}
use Rattle.path_building.specs.Relative.{up_from}
use Rattle.path_building.proofs.relative.add_ups.Given as goal

abbrev pub invariant-loop-rest : goal.invariant-loop-rest
invariant-loop-rest g l = map item_of l.names.items ++ up_from (map item_of l.rest) ≡ map item_of l.fn.names.items ++ up_from (map item_of l.wanted)

abbrev pub decreases-loop-rest : goal.decreases-loop-rest
decreases-loop-rest g l = length l.rest
