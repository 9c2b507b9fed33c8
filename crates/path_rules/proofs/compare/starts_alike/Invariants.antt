use Rattle.std.proofs.Common.{◌↔◌, length}
use Rattle.path_rules.specs.Compare.{StartsAlike}
use Rattle.path_rules.proofs.compare.starts_alike.Given as goal

abbrev pub invariant-loop-want : goal.invariant-loop-want
invariant-loop-want l = StartsAlike l.fn.left.items l.fn.wanted.items ↔ StartsAlike l.left.items l.wanted.items

abbrev pub decreases-loop-want : goal.decreases-loop-want
decreases-loop-want l = length l.wanted.items
