use Rattle.wtf8_core.proofs.lemmas.reader.Complete.{never_both}
use Rattle.wtf8_core.proofs.laws.encoded_or_faulty.Goals as goal

pub returns-clause-never_both : goal.returns-clause-never_both
returns-clause-never_both c = λ bytes cs f w s. never_both bytes w.0 cs f w.1 s
