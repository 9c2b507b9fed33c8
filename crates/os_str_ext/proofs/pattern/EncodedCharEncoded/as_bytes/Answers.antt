use Rattle.os_str_ext.proofs.Common.{IsUtf8-had}
use Rattle.os_str_ext.proofs.pattern.EncodedCharEncoded.as_bytes.Goals as goal

pub returns-clause-utf8 : goal.returns-clause-utf8
returns-clause-utf8 c = IsUtf8-had _ c.args.self.now.is_text
