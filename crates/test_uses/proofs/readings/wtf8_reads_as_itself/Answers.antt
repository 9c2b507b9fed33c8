use Rattle.test_uses.proofs.readings.wtf8_reads_as_itself.Goals as goal

pub returns : goal.returns
returns c = c.lossy_reading.ensures.one _ _ _ c.requires.reading (c.lossy_reading.ensures.itself _ c.requires.wtf8)
