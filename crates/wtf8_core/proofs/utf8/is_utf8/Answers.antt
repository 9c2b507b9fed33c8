use Rattle.wtf8_core.proofs.lemmas.texts.LossyTexts.{none_exactly}
use Rattle.wtf8_core.proofs.utf8.is_utf8.Goals as goal

pub returns-else-is_short_utf8 : goal.returns-else-is_short_utf8
returns-else-is_short_utf8 c = none_exactly _ _ _ c.fault_by_std.ensures c.is_none.ensures
