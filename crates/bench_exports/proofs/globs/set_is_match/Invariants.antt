use Rattle.std.proofs.Common.{length}
use Rattle.bench_exports.specs.Answers.{Fit}
use Rattle.bench_exports.proofs.globs.set_is_match.Given as goal

abbrev pub invariant-loop-len : goal.invariant-loop-len
invariant-loop-len l = Fit l.left l.rest

abbrev pub decreases-loop-len : goal.decreases-loop-len
decreases-loop-len l = length l.left
