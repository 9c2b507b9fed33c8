use Rattle.wtf8_core.proofs.lemmas.texts.LossyTexts.{no_text}
use Rattle.platform_str.proofs.os_str.OsStr.to_str.Goals as goal

pub returns-in-Some : goal.returns-in-Some
returns-in-Some g c = no_text _ _ c.in-Some.ensures.valid
