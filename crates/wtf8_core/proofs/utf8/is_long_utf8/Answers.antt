use Rattle.wtf8_core.proofs.lemmas.texts.LossyTexts.{none_exactly}
use Rattle.wtf8_core.proofs.utf8.is_long_utf8.Goals as goal

pub returns-else-prefix-bytes : goal.returns-else-prefix-bytes
returns-else-prefix-bytes c = none_exactly _ _ _ c.fault_in_rest.ensures c.is_none.ensures
