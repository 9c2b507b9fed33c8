use Rattle.wtf8_core.proofs.{Common.refl, lemmas.vectors.ComputedTests.copies}
use Rattle.wtf8_core.specs.declared.vectors.error_bits.TheConstants.{FIRST_HIGH, FIRST_LOW, SECOND_HIGH}
use Rattle.wtf8_core.proofs.vectors.error_bits.pair_bits.Goals as goal

pub entries-by_high-requires-clause-copies : goal.entries-by_high-requires-clause-copies
entries-by_high-requires-clause-copies c = copies FIRST_HIGH refl

pub entries-by_low-requires-clause-copies : goal.entries-by_low-requires-clause-copies
entries-by_low-requires-clause-copies c = copies FIRST_LOW refl

pub entries-requires-clause-copies : goal.entries-requires-clause-copies
entries-requires-clause-copies c = copies SECOND_HIGH refl
