use Rattle.std.proofs.Common.{length}
use Rattle.os_ignore.proofs.lemmas.Links.{IsLeft}
use Rattle.os_ignore.proofs.verdict.own.Given as goal

abbrev pub invariant-loop-file : goal.invariant-loop-file
invariant-loop-file g l = IsLeft l.path l.is_dir l.files l.left

abbrev pub decreases-loop-file : goal.decreases-loop-file
decreases-loop-file g l = length l.left
