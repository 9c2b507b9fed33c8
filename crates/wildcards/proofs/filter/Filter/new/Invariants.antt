use Rattle.wildcards.proofs.filter.Filter.new.Given as goal

abbrev pub decreases-loop-left : goal.decreases-loop-left
decreases-loop-left g l = l.left
