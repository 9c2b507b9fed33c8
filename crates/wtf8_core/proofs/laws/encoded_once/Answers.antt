use Rattle.wtf8_core.proofs.lemmas.reader.Complete.{encoded_once}
use Rattle.wtf8_core.proofs.laws.encoded_once.Goals as goal

pub returns : goal.returns
returns c = encoded_once
