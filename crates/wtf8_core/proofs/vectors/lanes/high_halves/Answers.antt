use Rattle.wtf8_core.proofs.Common.{arith}
use Rattle.std.proofs.lemmas.Simd.{Each1-from_get_or, Each2-splat}
use Rattle.wtf8_core.proofs.vectors.lanes.high_halves.Goals as goal

pub overflow_shr-result : goal.overflow_shr-result
overflow_shr-result g c = Each2-splat _ c.args.bytes _ 4 (Each1-from_get_or _ c.args.bytes 0 (λ i h. omega arith))
