use Rattle.wtf8_core.proofs.lemmas.characters.IllFormedParts.{apart_from_part}
use Rattle.wtf8_core.proofs.laws.ill_formed_parts.Goals as goal

pub returns : goal.returns
returns c = apart_from_part
