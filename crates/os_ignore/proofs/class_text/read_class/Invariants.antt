use Rattle.std.proofs.Common.{◌≤◌, length}
use Rattle.os_ignore.specs.ClassSteps.{AreNamelessWithin}
use Rattle.os_ignore.proofs.lemmas.Classes.{SoFar}
use Rattle.os_ignore.proofs.class_text.read_class.Given as goal

abbrev pub invariant-loop-ranges : goal.invariant-loop-ranges
invariant-loop-ranges g l = record {
  read : SoFar l.folds l.text l.ranges.items (l.before, l.left);
  less : length l.left ≤ length l.text;
  nameless : AreNamelessWithin l.nameless l.left;
}

abbrev pub decreases-loop-ranges : goal.decreases-loop-ranges
decreases-loop-ranges g l = length l.left
