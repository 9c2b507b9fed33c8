use Rattle.std.proofs.Common.{◌≤◌, length}
use Rattle.glob_text.specs.ClassSteps.{IsEndBefore}
use Rattle.glob_text.specs.ClassText.{AreMembers}
use Rattle.glob_text.proofs.class_text.read_class.Given as goal

abbrev pub invariant-loop-fault : goal.invariant-loop-fault
invariant-loop-fault g l = AreMembers l.quotes l.index l.text l.ranges.items (l.before, l.left) × ((length l.left ≤ length l.text) × IsEndBefore l.left l.end)

abbrev pub decreases-loop-fault : goal.decreases-loop-fault
decreases-loop-fault g l = length l.left
