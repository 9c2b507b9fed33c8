use Rattle.std.proofs.Common.{◌++◌, map}
use Rattle.path_rules.specs.Components.{AreComponents}
use Rattle.path_rules.specs.Views.{item_of}
use Rattle.path_building.proofs.normal.all_items.Given as goal

abbrev pub invariant-loop-item : goal.invariant-loop-item
invariant-loop-item g l = AreComponents l.fn.style l.path (map item_of l.items.items ++ l.item-iterator.items)
