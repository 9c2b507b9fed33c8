use Rattle.std.proofs.Common.{◌≤◌, length}
use Rattle.wildcards.specs.Match.{Fits, TakesLetter}
use Rattle.wildcards.proofs.lemmas.Wilds.{SoFar}
use Rattle.wildcards.proofs.lemmas.Fitting.{by_letters}
use Rattle.wildcards.proofs.run.up_to_many.Given as goal

abbrev pub invariant-loop-first : goal.invariant-loop-first
invariant-loop-first g l = SoFar TakesLetter Fits by_letters l.pieces (g.L.Letters.letters l.text) l.left (g.L.Letters.letters l.from) × ((length l.from ≤ length l.text) × g.L.Letters.formed l.from)

abbrev pub decreases-loop-first : goal.decreases-loop-first
decreases-loop-first g l = length l.left
