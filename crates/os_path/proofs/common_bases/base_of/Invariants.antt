use Rattle.std.proofs.Common.{◌≡◌, ◌+◌, map, length}
use Rattle.platform_str.specs.Strings.{path_bytes}
use Rattle.path_building.proofs.lemmas.CommonBases.{Walked}
use Rattle.os_path.proofs.common_bases.base_of.Given as goal

abbrev pub invariant-loop-left : goal.invariant-loop-left
invariant-loop-left g l = Walked l.style l.first (map path_bytes l.others) (map path_bytes l.left) l.index l.base × (l.index + length l.left ≡ length l.others + 1)

abbrev pub decreases-loop-left : goal.decreases-loop-left
decreases-loop-left g l = length l.left
