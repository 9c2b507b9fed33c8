use Rattle.wtf8_core.proofs.lemmas.characters.{AtIndices.character_fits, Overlaps.apart}
use Rattle.wtf8_core.proofs.laws.characters.Goals as goal

pub returns-clause-fits : goal.returns-clause-fits
returns-clause-fits c = character_fits

pub returns-clause-apart : goal.returns-clause-apart
returns-clause-apart c = apart
