use Rattle.std.proofs.Common.{◌+◌, length}
use Rattle.wildcards.specs.Match.{TakesComponent, FitsComponent}
use Rattle.wildcards.specs.Cuts.{left_components, left_size, IsLeftFormed}
use Rattle.wildcards.proofs.lemmas.Fitting.{by_components}
use Rattle.wildcards.proofs.lemmas.Wilds.{After}
use Rattle.wildcards.proofs.path.is_after_many.Given as goal

abbrev pub invariant-loop-left : goal.invariant-loop-left
invariant-loop-left g l = After (TakesComponent l.options.literal_leading_dot) (FitsComponent l.options.literal_leading_dot) (by_components l.options.literal_leading_dot) l.pieces (left_components g.L.Letters.letters l.options.separators l.fn.path) l.left (left_components g.L.Letters.letters l.options.separators l.from) × IsLeftFormed g.L.Letters.formed l.from

abbrev pub decreases-loop-left : goal.decreases-loop-left
decreases-loop-left g l = length l.left + left_size l.from
