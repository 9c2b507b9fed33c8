use Rattle.std.proofs.Common.{◌≤◌, length}
use Rattle.wildcards.specs.Match.{TakesComponent, FitsComponent}
use Rattle.wildcards.specs.Cuts.{left_components, left_size, IsLeftFormed}
use Rattle.wildcards.proofs.lemmas.Fitting.{by_components}
use Rattle.wildcards.proofs.lemmas.Wilds.{SoFar}
use Rattle.wildcards.proofs.path.up_to_many.Given as goal

abbrev pub invariant-loop-first : goal.invariant-loop-first
invariant-loop-first g l = SoFar (TakesComponent l.options.literal_leading_dot) (FitsComponent l.options.literal_leading_dot) (by_components l.options.literal_leading_dot) l.pieces (left_components g.L.Letters.letters l.options.separators l.fn.path) l.left (left_components g.L.Letters.letters l.options.separators l.from) × ((left_size l.from ≤ left_size l.fn.path) × IsLeftFormed g.L.Letters.formed l.from)

abbrev pub decreases-loop-first : goal.decreases-loop-first
decreases-loop-first g l = length l.left
