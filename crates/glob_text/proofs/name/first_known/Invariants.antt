use Rattle.std.proofs.Common.{◌≡◌, length}
use Rattle.glob_text.specs.ClassText.{known_name}
use Rattle.glob_text.proofs.name.first_known.Given as goal

abbrev pub invariant-loop-name : goal.invariant-loop-name
invariant-loop-name l = known_name l.names l.symbols ≡ known_name l.left l.symbols

abbrev pub decreases-loop-name : goal.decreases-loop-name
decreases-loop-name l = length l.left
