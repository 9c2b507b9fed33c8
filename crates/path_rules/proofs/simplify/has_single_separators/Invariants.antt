use Rattle.std.proofs.Common.{◌↔◌, length}
use Rattle.path_rules.specs.Simplified.{HasSingleSeparators}
use Rattle.path_rules.proofs.simplify.has_single_separators.Given as goal

abbrev pub invariant-loop-rest : goal.invariant-loop-rest
invariant-loop-rest l = HasSingleSeparators l.bytes ↔ HasSingleSeparators l.rest

abbrev pub decreases-loop-rest : goal.decreases-loop-rest
decreases-loop-rest l = length l.rest
