use Rattle.std.proofs.Common.{◌∙◌, sym}
use Rattle.test_uses.proofs.units.units_say.Goals as goal

pub returns : goal.returns
returns c = c.encode_wide.ensures.units ∙ sym ((c.functions.ensures.units _ _).0 c.requires).1
