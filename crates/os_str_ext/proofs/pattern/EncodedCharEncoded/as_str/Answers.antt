use Rattle.os_str_ext.proofs.Common.{IsUtf8-had}
use Rattle.os_str_ext.proofs.pattern.EncodedCharEncoded.as_str.Goals as goal

pub from_utf8_unchecked-requires : goal.from_utf8_unchecked-requires
from_utf8_unchecked-requires c = IsUtf8-had _ c.args.self.now.is_text
