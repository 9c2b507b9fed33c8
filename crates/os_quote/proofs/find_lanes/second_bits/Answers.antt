use Rattle.os_quote.proofs.Common.{refl, SECOND_HIGH, SECOND_LOW, copies}
use Rattle.os_quote.proofs.find_lanes.second_bits.Goals as goal

pub bits-requires-clause-high : goal.bits-requires-clause-high
bits-requires-clause-high c = copies SECOND_HIGH refl

pub bits-requires-clause-low : goal.bits-requires-clause-low
bits-requires-clause-low c = copies SECOND_LOW refl
