use Rattle.test_uses.proofs.Outcomes.{none_is}
use Rattle.test_uses.proofs.escapes.no_text_in.Goals as goal

pub returns : goal.returns
returns g c = none_is _ c.write_unescaped_bytes.result c.write_unescaped_bytes.ensures.utf8 c.requires
