use Rattle.os_quote.proofs.Common.{refl, FIRST_HIGH, FIRST_LOW, copies}
use Rattle.os_quote.proofs.find_lanes.kind_bits.Goals as goal

pub bits-requires-clause-high : goal.bits-requires-clause-high
bits-requires-clause-high c = copies FIRST_HIGH refl

pub bits-requires-clause-low : goal.bits-requires-clause-low
bits-requires-clause-low c = copies FIRST_LOW refl
