use Rattle.std.proofs.Common.{rules}
use Rattle.platform_str.specs.Strings.{bytes}
use Rattle.test_uses.proofs.FirstAndLast.{only_first}
use Rattle.test_uses.proofs.characters.first_says.Goals as goal

pub returns : goal.returns
returns g c = only_first bytes c.forms.ensures _ _ _ c.requires (search rules) _ c.split_first_char.ensures.bytes
