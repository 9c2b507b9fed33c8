use Rattle.std.proofs.Common.{◌↔◌, length}
use Rattle.path_rules.specs.Compare.{EndsAlike}
use Rattle.path_rules.proofs.compare.ends_alike.Given as goal

abbrev pub invariant-loop-want : goal.invariant-loop-want
invariant-loop-want l = EndsAlike l.fn.left.items l.fn.wanted.items ↔ EndsAlike l.left.items l.wanted.items

abbrev pub decreases-loop-want : goal.decreases-loop-want
decreases-loop-want l = length l.wanted.items
