use Rattle.wtf8_core.proofs.Common.{◌≡◌, ◌*◌, true, length, min, KeepsPattern}
use Rattle.wtf8_core.specs.declared.vectors.Encoding.TheVariants.{Utf8}
use Rattle.wtf8_core.proofs.vectors.scan.are_allowed.Given as goal

abbrev pub invariant-loop-step : goal.invariant-loop-step
invariant-loop-step l = l.allowed ≡ true → KeepsPattern Utf8 l.bytes (min (l.step * 16) (length l.bytes))
