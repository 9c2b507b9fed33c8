use Rattle.std.proofs.Common.{◌≡◌, ℕ, ◌+◌, List, length}
use Rattle.os_str_ext.specs.Pieces.{IsSplit}
use Rattle.bench_exports.proofs.pieces.port_split.Given as goal

-- the pieces so far and those left are all
abbrev pub invariant-loop : goal.invariant-loop
invariant-loop l = (all : List (List ℕ)) × IsSplit l.pattern l.raw all × (l.count + length l.iterator' ≡ length all)
