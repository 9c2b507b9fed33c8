use Rattle.std.proofs.Common.{◌≡◌, ◌++◌, List, true, length}
use Rattle.std.specs.List.{AllByRecursion}
use Rattle.os_ignore.specs.declared.letter.Letter.{Letter}
use Rattle.os_ignore.specs.Letters.{is_plain}
use Rattle.os_ignore.proofs.line.trim.Given as goal

abbrev pub invariant-loop-last : goal.invariant-loop-last
invariant-loop-last l = (blanks : List Letter) × (l.letters ≡ l.left ++ blanks) × AllByRecursion (λ b. is_plain b 0x20 ≡ true) blanks

abbrev pub decreases-loop-last : goal.decreases-loop-last
decreases-loop-last l = length l.left
