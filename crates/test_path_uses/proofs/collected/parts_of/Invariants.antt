use Rattle.std.proofs.Common.{◌≡◌, ◌++◌, map}
use Rattle.os_path.specs.Views.{os_item_of}
use Rattle.test_path_uses.proofs.collected.parts_of.Given as goal

abbrev pub invariant-loop-part : goal.invariant-loop-part
invariant-loop-part g l = map os_item_of l.parts.items ++ l.part-iterator.items ≡ l.fn.left.items
