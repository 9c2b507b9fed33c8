use Rattle.wtf8_core.proofs.fault.+write_decimal.Given as goal

abbrev pub decreases-write_decimal : goal.decreases-write_decimal
decreases-write_decimal g l = l.value
