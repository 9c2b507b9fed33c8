use Rattle.std.proofs.Common.{◌≤◌, ◌-◌}
use Rattle.path_rules.specs.Shared.{AreAlikeBelow}
use Rattle.path_rules.proofs.shared.shared_by.Given as goal

abbrev pub invariant-loop-at : goal.invariant-loop-at
invariant-loop-at g l = (l.at ≤ l.end) × AreAlikeBelow l.a l.b l.at

abbrev pub decreases-loop-at : goal.decreases-loop-at
decreases-loop-at g l = l.end - l.at
