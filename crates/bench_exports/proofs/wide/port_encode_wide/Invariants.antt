use Rattle.std.proofs.Common.{◌++◌}
use Rattle.wtf8_core.specs.Items.{AreUnitItems}
use Rattle.wtf8_core.proofs.lemmas.reader.FirstErr.{oks}
use Rattle.bench_exports.specs.Answers.{IsFilled}
use Rattle.bench_exports.proofs.wide.port_encode_wide.Given as goal

abbrev pub invariant-loop-item : goal.invariant-loop-item
invariant-loop-item l = IsFilled (λ done. AreUnitItems l.bytes (oks done ++ l.item-iterator)) l.fn.out l.out l.written
