use Rattle.wtf8_core.proofs.Common.{◌≤◌, length, KeepsPattern}
use Rattle.wtf8_core.specs.declared.vectors.Encoding.TheVariants.{Utf8}
use Rattle.wtf8_core.proofs.vectors.scan.scan_steps.Given as goal

abbrev pub invariant-loop : goal.invariant-loop
invariant-loop l = (l.end ≤ length l.bytes) × KeepsPattern Utf8 l.bytes l.end
