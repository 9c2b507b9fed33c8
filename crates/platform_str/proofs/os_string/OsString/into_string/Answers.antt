use Rattle.platform_str.proofs.Common.{subst, IsUtf8, IsUtf8-string_bytes}
use Rattle.platform_str.proofs.os_string.OsString.into_string.Goals as goal

-- a text's bytes are UTF-8
pub returns-in-Ok-clause-cases : goal.returns-in-Ok-clause-cases
returns-in-Ok-clause-cases g c = subst (λ vec. IsUtf8 vec.items) c.in-Ok.ensures.ok (IsUtf8-string_bytes c.in-Ok.text)
