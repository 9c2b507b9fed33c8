use Rattle.std.proofs.Common.{arith}
use Rattle.std.proofs.lemmas.List.Elements.{All-from_get_or}
use Rattle.wtf8_core.specs.Byte.{IsByte}
use Rattle.test_uses.proofs.readings.has_reading.Goals as goal

pub returns : goal.returns
returns c =
    let are_bytes = All-from_get_or IsByte c.args.raw.now 0 (λ i _. omega (arith, c.type_inv.raw i)) in
    let some = c.lossy_reading.ensures.some c.args.raw.now are_bytes in
    (some.0, (some.1, c.lossy_reading.ensures.wtf8 _ _ some.1))
