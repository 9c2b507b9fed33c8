use Rattle.std.proofs.Common.{ℕ, List, ◌++◌}
use Rattle.wtf8_core.specs.Wtf8.{HasUnits}
use Rattle.wtf8_core.specs.Truncated.{IsTruncated}
use Rattle.osbytes_c.proofs.strings.wide.write_some_bytes.Given as goal

-- the bytes so far, which are written as far as there is room
abbrev pub invariant-loop-byte : goal.invariant-loop-byte
invariant-loop-byte l = (done : List ℕ) × (IsTruncated done l.fn.out l.out l.written × HasUnits (done ++ l.byte-iterator) l.units)
