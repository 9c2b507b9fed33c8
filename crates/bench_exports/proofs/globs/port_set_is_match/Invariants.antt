use Rattle.bench_exports.proofs.globs.port_set_is_match.Given as goal

abbrev pub decreases-loop-left : goal.decreases-loop-left
decreases-loop-left l = l.left
