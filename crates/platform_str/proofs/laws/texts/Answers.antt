use Rattle.platform_str.proofs.Common.{text_of_character}
use Rattle.platform_str.proofs.laws.texts.Goals as goal

pub returns-clause-after_text : goal.returns-clause-after_text
returns-clause-after_text g c = λ b j formed whole. g.met.E.Platform.laws.after_text b j formed (text_of_character b j whole)
