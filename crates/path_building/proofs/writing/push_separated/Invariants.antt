use Rattle.std.proofs.Common.{◌≡◌, ◌++◌, drop}
use Rattle.path_building.specs.Cleaned.{separated_by}
use Rattle.path_building.proofs.writing.push_separated.Given as goal

abbrev pub invariant-loop-byte : goal.invariant-loop-byte
invariant-loop-byte g l = l.path.items ++ separated_by l.separator (drop l.byte-index l.bytes) ≡ l.fn.path.items ++ separated_by l.separator l.bytes
