use Rattle.std.proofs.Common.{◌+◌, length}
use Rattle.wildcards.specs.Match.{Fits, TakesLetter}
use Rattle.wildcards.proofs.lemmas.Wilds.{After}
use Rattle.wildcards.proofs.lemmas.Fitting.{by_letters}
use Rattle.wildcards.proofs.run.is_after_many.Given as goal

abbrev pub invariant-loop-left : goal.invariant-loop-left
invariant-loop-left g l = After TakesLetter Fits by_letters l.pieces (g.L.Letters.letters l.text) l.left (g.L.Letters.letters l.from) × g.L.Letters.formed l.from

abbrev pub decreases-loop-left : goal.decreases-loop-left
decreases-loop-left g l = length l.left + length l.from
