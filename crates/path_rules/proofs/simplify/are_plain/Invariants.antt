use Rattle.std.proofs.Common.{◌↔◌, length}
use Rattle.std.specs.List.{AllByRecursion}
use Rattle.path_rules.specs.Simplified.{IsPlainItem}
use Rattle.path_rules.proofs.simplify.are_plain.Given as goal

abbrev pub invariant-loop-item : goal.invariant-loop-item
invariant-loop-item l = AllByRecursion IsPlainItem l.fn.items.items ↔ AllByRecursion IsPlainItem l.left.items

abbrev pub decreases-loop-item : goal.decreases-loop-item
decreases-loop-item l = length l.left.items
