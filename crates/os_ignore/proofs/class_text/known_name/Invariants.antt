use Rattle.std.proofs.Common.{◌≡◌, length}
use Rattle.os_ignore.specs.ClassText.{known_name}
use Rattle.os_ignore.proofs.class_text.known_name.Given as goal

abbrev pub invariant-loop-name : goal.invariant-loop-name
invariant-loop-name l = known_name l.names l.letters ≡ known_name l.left l.letters

abbrev pub decreases-loop-name : goal.decreases-loop-name
decreases-loop-name l = length l.left
