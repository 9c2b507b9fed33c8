use Rattle.std.proofs.Common.{length}
use Rattle.os_ignore.specs.Letters.{IsLetter}
use Rattle.wildcards.specs.Items.{Reads}
use Rattle.os_ignore.proofs.letter.letters.Given as goal

abbrev pub invariant-loop-first : goal.invariant-loop-first
invariant-loop-first g l = Reads IsLetter l.text l.letters.items l.left

abbrev pub decreases-loop-first : goal.decreases-loop-first
decreases-loop-first g l = length l.left
