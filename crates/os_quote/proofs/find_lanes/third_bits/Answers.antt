use Rattle.os_quote.proofs.Common.{refl, THIRD_HIGH, THIRD_LOW, OTHER_HIGH, OTHER_LOW, copies}
use Rattle.os_quote.proofs.find_lanes.third_bits.Goals as goal

pub bits-some-requires-clause-high : goal.bits-some-requires-clause-high
bits-some-requires-clause-high c = copies THIRD_HIGH refl

pub bits-some-requires-clause-low : goal.bits-some-requires-clause-low
bits-some-requires-clause-low c = copies THIRD_LOW refl

pub bits-requires-clause-high : goal.bits-requires-clause-high
bits-requires-clause-high c = copies OTHER_HIGH refl

pub bits-requires-clause-low : goal.bits-requires-clause-low
bits-requires-clause-low c = copies OTHER_LOW refl
