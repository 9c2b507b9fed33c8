use Rattle.std.proofs.Common.{◌↔◌, length}
use Rattle.os_path.specs.Reserved.{HasReservedItem}
use Rattle.os_path.proofs.reserved.has_reserved.Given as goal

abbrev pub invariant-loop-item : goal.invariant-loop-item
invariant-loop-item l = HasReservedItem l.fn.items.items ↔ HasReservedItem l.left.items

abbrev pub decreases-loop-item : goal.decreases-loop-item
decreases-loop-item l = length l.left.items
