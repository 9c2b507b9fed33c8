use Rattle.wtf8_core.proofs.lemmas.characters.AtIndices.{character_in_rest, none_past}
use Rattle.wtf8_core.proofs.character.char_at.Goals as goal

pub returns-then-at-bytes : goal.returns-then-at-bytes
returns-then-at-bytes c = character_in_rest c.args.bytes.now c.args.at c.first_char_len.result c.if-at-bytes.true c.first_char_len.ensures

pub returns-else-at-bytes : goal.returns-else-at-bytes
returns-else-at-bytes c = none_past c.args.bytes.now c.args.at c.if-at-bytes.false
