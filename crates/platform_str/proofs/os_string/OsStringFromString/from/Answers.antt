use Rattle.platform_str.proofs.Common.{IsUtf8-string_bytes}
use Rattle.platform_str.proofs.os_string.OsStringFromString.from.Goals as goal

-- a text is a string of every platform
pub from_encoded_bytes_unchecked-requires : goal.from_encoded_bytes_unchecked-requires
from_encoded_bytes_unchecked-requires g c = g.met.E.Platform.laws.text _ (rw c.into_bytes.ensures.value (IsUtf8-string_bytes c.args.text))
