use Rattle.std.proofs.Common.{map, length}
use Rattle.path_building.specs.CommonBase.{bytes_of}
use Rattle.paths_commands.proofs.lemmas.Commons.{Held}
use Rattle.paths_commands.proofs.common.paths_in.Given as goal

abbrev pub invariant-loop-path : goal.invariant-loop-path
invariant-loop-path g l = Held l.held l.left (map bytes_of l.paths.items)

abbrev pub decreases-loop-path : goal.decreases-loop-path
decreases-loop-path g l = length l.left
