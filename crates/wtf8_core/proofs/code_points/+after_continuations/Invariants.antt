use Rattle.wtf8_core.proofs.code_points.+after_continuations.Given as goal

abbrev pub decreases-after_continuations : goal.decreases-after_continuations
decreases-after_continuations l = l.limit
