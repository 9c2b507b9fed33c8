use Rattle.std.proofs.Common.{◌++◌}
use Rattle.wtf8_core.specs.Wtf8.{HasUnits}
use Rattle.bench_exports.specs.Answers.{IsFilled}
use Rattle.bench_exports.proofs.wide.port_decode_wide.Given as goal

abbrev pub invariant-loop-byte : goal.invariant-loop-byte
invariant-loop-byte l = IsFilled (λ done. HasUnits (done ++ l.byte-iterator) l.units) l.fn.out l.out l.written
