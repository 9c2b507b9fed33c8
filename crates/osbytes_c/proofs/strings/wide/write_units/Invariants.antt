use Rattle.std.proofs.Common.{ℕ, List, ◌++◌}
use Rattle.wtf8_core.specs.Items.{AreUnitItems}
use Rattle.wtf8_core.specs.Truncated.{IsTruncated}
use Rattle.wtf8_core.proofs.lemmas.reader.FirstErr.{oks}
use Rattle.osbytes_c.proofs.strings.wide.write_units.Given as goal

-- the units so far, which are written as far as there is room
abbrev pub invariant-loop-item : goal.invariant-loop-item
invariant-loop-item l = (done : List ℕ) × (IsTruncated done l.fn.out l.out l.written × AreUnitItems l.bytes (oks done ++ l.item-iterator))
