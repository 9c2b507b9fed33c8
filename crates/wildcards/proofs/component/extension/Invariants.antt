use Rattle.std.proofs.Common.{length}
use Rattle.wildcards.proofs.lemmas.Extensions.{Passed}
use Rattle.wildcards.proofs.component.extension.Given as goal

abbrev pub invariant-loop-last : goal.invariant-loop-last
invariant-loop-last l = Passed l.separators l.path l.left

abbrev pub decreases-loop-last : goal.decreases-loop-last
decreases-loop-last l = length l.left
