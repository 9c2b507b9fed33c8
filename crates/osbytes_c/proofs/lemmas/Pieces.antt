-- Faults of bytes that come in pieces.
use Rattle.std.proofs.Common.{ℕ, List, ◌++◌}
use Rattle.wtf8_core.specs.Wtf8.{IsWtf8}
use Rattle.wtf8_core.proofs.lemmas.{reader.Complete.never_both, table.Pieces.extends}
use Rattle.osbytes_c.specs.declared.strings.fault.Fault.{Fault}
use Rattle.osbytes_c.specs.Faults.{ReportsFirst, ReportsFaulty}

-- bytes with a fault aren't WTF-8
pub not_wtf8 : (bytes : List ℕ) (report : Fault) → ReportsFirst bytes report → ¬ (IsWtf8 bytes)
not_wtf8 bytes report r w = never_both bytes w.0 r.1.0.0 r.0 w.1 r.1.0.1

-- nor are they with more bytes after them, where no later byte changes the fault
pub never_wtf8 : (bytes more : List ℕ) (report : Fault) → ReportsFaulty bytes report → ¬ (IsWtf8 (bytes ++ more))
never_wtf8 bytes more report r w = let f = (extends bytes more r.0 r.1.0).first in never_both (bytes ++ more) w.0 f.0 r.0 w.1 f.1
