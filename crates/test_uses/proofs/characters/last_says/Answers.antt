use Rattle.std.proofs.Common.{rules}
use Rattle.platform_str.specs.Strings.{bytes}
use Rattle.test_uses.proofs.FirstAndLast.{only_last}
use Rattle.test_uses.proofs.characters.last_says.Goals as goal

pub returns : goal.returns
returns g c = only_last bytes c.forms.ensures _ _ _ c.requires (search rules) _ c.split_last_char.ensures.bytes
