use Rattle.std.proofs.Common.{◌↔◌, length}
use Rattle.wildcards.specs.Sets.{MatchesChoice}
use Rattle.wildcards.proofs.pattern.matches_any.Given as goal

abbrev pub invariant-loop-choice : goal.invariant-loop-choice
invariant-loop-choice g l = MatchesChoice l.options l.choices (g.L.Letters.letters l.path) ↔ MatchesChoice l.options l.left (g.L.Letters.letters l.path)

abbrev pub decreases-loop-choice : goal.decreases-loop-choice
decreases-loop-choice g l = length l.left
